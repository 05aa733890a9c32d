-- An attempt at i writes before i alone, and the constants grow by one at most, at a folding operator; so there is room for all. Assumes nothing.
use Prim.Native.Nat.{ℕ, suc, ◌+◌, ◌≤◌, ◌<◌, min, max}
use native.Mathlib.Omega.{arith}
use native.Mathlib.Numerals.{add-one}
use mathlib.Core.Path.{◌≡◌, refl, sym, ap, ◌∙◌}
use mathlib.Core.Bool.{Bool, true, false, cond}
use mathlib.Core.List.{List}
use lib.Dec.{eqb}
use lib.ListN.{length, get_or}
use mir.Val.{bool_byte}
use Rattle.laws.specs.All.{many}
use Rattle.chunk.specs.Chunk.{chunk_count, op_at, folds}
use Rattle.chunk.specs.Check.{constant_room}
use Rattle.laws.proofs.Counting.{many_le}
use Rattle.values.specs.declared.Val.{Val}
use Rattle.values.specs.declared.Val.TheVariants.{Int, Float as Real, Bool as Truth}
use Rattle.pool.specs.Pool.{Stored, find_or_push_const}
use Rattle.pool.proofs.Store.{kept_few}
use Rattle.landings.specs.Latest.{latest, is_landing}
use Rattle.fold.specs.Plan.{Chunk, after, plan_at}
use Rattle.fold.specs.Pass.{Loading, load_of, const_load, landed, applied, try_fold, Bars, by_table, folded, fold_all}
use Rattle.fold.specs.Inner.{OperatorRoom, PassRoom}
use Rattle.fold.proofs.Planned.{Planned, planned}
use Rattle.fold.proofs.Put.{put_other}
use Rattle.std.specs.declared.option.Option.{Option}
use Rattle.std.specs.declared.option.Option.TheVariants.{Some, None}
use Rattle.fold.specs.declared.Plan.{Plan}
use Rattle.fold.specs.declared.Load.{Load}
use Rattle.fold.specs.Plan.{to_put}

-- ---- one attempt

pub record Grown (s t : Chunk) (i : ℕ) : Type 0 where
  pub later : (k : ℕ) → i ≤ k → op_at t.code k ≡ op_at s.code k
  pub few : t.constants ≤ constant_room s.constants (bool_byte (folds (op_at s.code i)))

abbrev count_of : Option Load → ℕ → ℕ
count_of (Some l) n = l.constants
count_of None n = n

pool_few : (s : Stored) (kinds words : List ℕ) (n : ℕ) (v : Val) → s ≡ find_or_push_const kinds words n v → count_of (load_of s.kept) n ≤ max n
    (min 65535 (n + 1))
pool_few s kinds words n v e = go s.kept refl
  where
    go : (k : Option (ℕ × ℕ)) → s.kept ≡ k → count_of (load_of k) n ≤ max n (min 65535 (n + 1))
    go (Some k) h = kept_few {k = s.kept} {ks = s.kinds} {ws = s.words} kinds words n v e h
    go None h = omega arith

load_few : (v : Val) (kinds words : List ℕ) (n : ℕ) → count_of (const_load v kinds words n).load n ≤ max n (min 65535 (n + 1))
unfolding const_load
load_few (Int z) kinds words n = pool_few (find_or_push_const kinds words n (Int z)) kinds words n (Int z) refl
load_few (Real x) kinds words n = pool_few (find_or_push_const kinds words n (Real x)) kinds words n (Real x) refl
load_few (Truth b) kinds words n = omega arith

module _ (i : ℕ) (s : Chunk) where
  idle : Grown s s i
  idle = record { later = λ k h. refl; few = omega arith }

  put_grown : (p q : ℕ) (v : Val) → Planned s i p q → Grown s (applied (to_put p q v) i s) i
  unfolding applied landed
  put_grown p q v h = go (const_load v s.kinds s.words s.constants) (load_few v s.kinds s.words s.constants)
    where
      go : (l : Loading) → count_of l.load s.constants ≤ max s.constants (min 65535 (s.constants + 1))
          → Grown s (landed l.load l.kinds l.words p q i s) i
      go l b = by l.load b
        where
          by : (a : Option Load) → count_of a s.constants ≤ max s.constants (min 65535 (s.constants + 1)) → Grown s (landed a l.kinds l.words p q i s) i
          by (Some a) b =
              record {
                later = λ k g. put_other s.code p a.opcode a.operand k (λ e. omega (arith, h.first));
                few = rw h.operator b;
              }
          by None b = record { later = λ k g. refl; few = omega arith }

  pub try_grown : (bars : ℕ → Bool) → Grown s (try_fold bars i s) i
  unfolding try_fold applied
  try_grown bars = go (eqb (get_or s.dead i 0) 0)
    where
      by : (plan : Option Plan) → plan_at bars i s ≡ plan → Grown s (applied plan i s) i
      by None e = idle
      by (Some f) e = put_grown f.at f.dies f.value (planned bars i s e)

      go : (t : Bool) → Grown s (cond t (applied (plan_at bars i s) i s) s) i
      go true = by (plan_at bars i s) refl
      go false = idle

-- ---- the pass

abbrev operators : Chunk → ℕ → ℕ
operators s k = many (λ j. folds (op_at s.code j)) k

pub record Held (bars : Bars) (s t : Chunk) (i : ℕ) : Type 0 where
  pub is : t ≡ folded bars i s
  pub later : (k : ℕ) → i ≤ k → op_at t.code k ≡ op_at s.code k
  pub few : t.constants ≤ constant_room s.constants (operators s i)
  pub code_long : length t.code ≡ length s.code
  pub dead_long : length t.dead ≡ length s.dead
  pub kinds_long : length t.kinds ≡ length s.kinds
  pub words_long : length t.words ≡ length s.words

pub held_none : (bars : Bars) (s : Chunk) → Held bars s s 0
unfolding folded many
held_none bars s =
    record { is = refl; later = λ k h. refl; few = omega arith; code_long = refl; dead_long = refl; kinds_long = refl; words_long = refl }

many_here : (f : ℕ → Bool) (k : ℕ) → many f (suc k) ≡ many f k + bool_byte (f k)
unfolding many
many_here f k = refl

module _ {bars : Bars} {s t : Chunk} {i n : ℕ} (h : Held bars s t i) (z : n ≡ chunk_count s.code) (l' : i < n) (b : PassRoom s) where
  l : i < chunk_count s.code
  l = omega arith

  one : many (λ j. folds (op_at s.code j)) (suc i) ≤ operators s (chunk_count s.code)
  one = many_le (λ j. folds (op_at s.code j)) (suc i) (chunk_count s.code) l

  here : operators s (suc i) ≡ operators s i + bool_byte (folds (op_at s.code i))
  here = many_here (λ j. folds (op_at s.code j)) i

  pub held_ready : OperatorRoom t i
  held_ready =
      record {
        readable =
            record {
              here = rw h.code_long l;
              marked = omega (arith, h.dead_long, b.marks);
              kinds_there = omega (arith, h.kinds_long, h.few, b.kinds_room, one, here);
              words_there = omega (arith, h.words_long, h.few, b.words_room, one, here);
            };
        room = λ o.
            let y : folds (op_at s.code i) ≡ true = sym (ap folds (h.later i (omega arith))) ∙ o in
            let g : operators s (suc i) ≡ operators s i + 1 = here ∙ ap (λ (x : Bool). operators s i + bool_byte x) y in
            record {
              few = omega (arith, h.few, b.few);
              kinds_there = omega (arith, h.kinds_long, h.few, b.kinds_room, one, here);
              words_there = omega (arith, h.words_long, h.few, b.words_room, one, here);
              kinds_more = λ m. omega (arith, h.kinds_long, h.few, b.kinds_room, one, g);
              words_more = λ m. omega (arith, h.words_long, h.few, b.words_room, one, g);
            };
      }

  pub held_more : (u : Chunk) → u ≡ try_fold (bars t.code i) i t → length u.code ≡ length t.code → length u.dead ≡ length t.dead
      → length u.kinds ≡ length t.kinds
      → length u.words ≡ length t.words → Held bars s u (i + 1)
  unfolding folded
  held_more u e c d k w =
      let g : Grown t u i = rw e (try_grown i t (bars t.code i)) in
      record {
        is = rw (add-one i) (e ∙ ap (λ (x : Chunk). try_fold (bars x.code i) i x) h.is);
        later = λ j m. g.later j (omega arith) ∙ h.later j (omega arith);
        few = rw (add-one i) (omega (arith, g.few, h.few, here, ap (λ (o : ℕ). bool_byte (folds o)) (h.later i (omega arith))));
        code_long = c ∙ h.code_long;
        dead_long = d ∙ h.dead_long;
        kinds_long = k ∙ h.kinds_long;
        words_long = w ∙ h.words_long;
      }

-- all n of them
pub held_all : {bars : Bars} {s t : Chunk} {i n : ℕ} → Held bars s t i → n ≡ chunk_count s.code → n ≤ i → i ≤ n → t ≡ fold_all bars s
unfolding fold_all
held_all {s = s} {i = i} h z a b = let e : chunk_count s.code ≡ i = omega arith in rw e h.is

-- ---- with the last landing in hand

pub record Asked (strict : Bool) (l : List ℕ) (s t : Chunk) (last i : ℕ) : Type 0 where
  pub held : Held (by_table strict l) s t i
  pub told : last ≡ latest (is_landing strict l) i

pub asked_none : (strict : Bool) (l : List ℕ) (s : Chunk) → Asked strict l s s 0 0
unfolding latest
asked_none strict l s = record { held = held_none (by_table strict l) s; told = refl }

module _ {strict : Bool} {l : List ℕ} {s t : Chunk} {last i n : ℕ} (h : Asked strict l s t last i) (z : n ≡ chunk_count s.code) (b : i < n)
    (f : PassRoom s) where
  pub asked_ready : OperatorRoom t i
  asked_ready = held_ready h.held z b f

  pub asked_more : {more : ℕ} (u : Chunk) → more ≡ cond (is_landing strict l i) i last → u ≡ try_fold (after more) i t → length u.code ≡ length t.code
      → length u.dead ≡ length t.dead → length u.kinds ≡ length t.kinds → length u.words ≡ length t.words → Asked strict l s u more (i + 1)
  unfolding latest
  asked_more {more} u m e c d k w =
      let y : more ≡ latest (is_landing strict l) (suc i) = m ∙ ap (λ (x : ℕ). cond (is_landing strict l i) i x) h.told in
      record { held = held_more h.held z b f u (rw y at e) c d k w; told = rw (add-one i) y }

pub asked_all : {strict : Bool} {l : List ℕ} {s t : Chunk} {last i n : ℕ} → Asked strict l s t last i → n ≡ chunk_count s.code → n ≤ i → i ≤ n → t ≡ fold_all
    (by_table strict l) s
asked_all h z a b = held_all h.held z a b
