-- The clearing call: one result, its refusals, words past the count, and that asked again it changes nothing more. Assumes nothing.
use mathlib.Core.Path.{◌≡◌, refl, sym, ap, ◌∙◌}
use mathlib.Core.List.{List, [], ◌∷◌}
use Prim.Native.Nat.{ℕ, ◌≤◌}
use native.Mathlib.Omega.{arith}
use lib.ListN.{length}
use Rattle.laws.specs.Table.{Held}
use Rattle.laws.specs.Each.{each}
use Rattle.laws.proofs.Each.{each_word}
use Rattle.refusals.specs.declared.Answer.{Answer}
use Rattle.refusals.specs.Stages.{Checked}
use Rattle.std.specs.declared.result.Result.TheVariants.{Ok, Err}
use Rattle.named.specs.Unused.{constant_named, before, pooled, numbered}
use Rattle.clear.specs.Clear.{ClearAnswer, Is, No, PoolBuffers, ClearOutcome, clear_outcome, clear_ready_of, clear_call, clear_told}
use Rattle.clear.proofs.Answers.{refused_call, answered, refusal_keeps}
use Rattle.clear.proofs.Kept.{in_order, onto, pooled_kept, pooled_freed, pooled_past, pooled_length}
use Rattle.clear.proofs.Loads.{recoded_length, recoded_op, recoded_mark, unmarked_stays, far_stays, near_moves, loads_same}
use Rattle.clear.proofs.Room.{no_more}
use Rattle.clear.proofs.Tested.{held_of}
use Rattle.clear.proofs.Twice.{clear_twice}
use Rattle.answers.proofs.Alone.{one_clear}
use Rattle.exported.specs.Settles as settles
use Rattle.exported.specs.Settles.{Settles}
use Rattle.exported.specs.Calls.{ClearCall, ClearBeyond}
use Rattle.exported.specs.Told.{ClearHolds, ClearedTwice}
use Rattle.exported.proofs.Writing.{held_same, held_front}
use Rattle.exported.proofs.Folded.{answered_clear, clear_answers}

module _ (m : ℕ) (b : PoolBuffers) where
  pool_held : (l : List ℕ) → m ≤ length l → Held m l (pooled (constant_named b.code) m l)
  pool_held l h = record { same = pooled_length (constant_named b.code) m l h; tail = pooled_past (constant_named b.code) m l }

  scratch_held : (l : List ℕ) → m ≤ length l → Held m l (numbered (before b.code) m l)
  unfolding numbered
  scratch_held l h = held_front m (each (λ i. before b.code i ∷ []) m) l (each_word (before b.code) m) h

  cleared_beyond : (r : ℕ) (a : PoolBuffers) → clear_call b m ≡ clear_outcome (Is r) a → ClearBeyond m b a
  cleared_beyond r a e = go (clear_ready_of b m) refl
    where
      go : (v : Checked) → clear_ready_of b m ≡ v → ClearBeyond m b a
      go (Err q) f =
          let y : No q ≡ Is r = ap (λ (x : ClearOutcome). x.answer) (sym (refused_call b m q f) ∙ e) in
          absurd (let z : ◌≡◌ {A = ℕ} 0 1 = cc in omega arith)
      go (Ok n) f =
          let y = answered b m r a e in
          let k = held_of b m (Ok n) (sym f) n refl in
          rw (y.code, y.kinds, y.words, y.scratch)
          (record {
            code = recoded_length (before b.code) m b.code ∙ sym k.whole;
            kinds = pool_held b.kinds k.kinds;
            words = pool_held b.words k.words;
            scratch = scratch_held b.scratch k.scratch;
          })

  module _ (r : Answer) (a : PoolBuffers) (x : ClearCall m b r a) where
    clear_refusal : settles.Refusal r → a ≡ b
    clear_refusal h = go x.told x.is x.allowed
      where
        go : (v : ClearAnswer) → r ≡ clear_told v → clear_outcome v a ≡ clear_call b m → a ≡ b
        go (Is n) e y = absurd (h (ap (λ (s : Answer). s.refusal) e))
        go (No q) e y = refusal_keeps b m q a (sym y)

    clear_beyond : ClearBeyond m b a
    clear_beyond = go x.told x.allowed
      where
        go : (v : ClearAnswer) → clear_outcome v a ≡ clear_call b m → ClearBeyond m b a
        go (Is n) y = cleared_beyond n a (sym y)
        go (No q) y =
            rw (refusal_keeps b m q a (sym y))
            (record {
              code = refl;
              kinds = held_same m b.kinds b.kinds refl;
              words = held_same m b.words b.words refl;
              scratch = held_same m
                  b.scratch b.scratch refl;
            })

    -- with refusal 0: what is left
    pub clear_holds : r.refusal ≡ 0 → ClearHolds m b r a
    clear_holds z =
        let w = b.code in
        let y = answered b m r.first a (answered_clear m b r a x z) in
        rw (y.code, y.kinds, y.words, y.scratch, y.count)
        (record {
          count = refl;
          fewer = no_more w m;
          kind = λ i h e. pooled_kept (constant_named w) m b.kinds i h e;
          word = λ i h e. pooled_kept (constant_named w) m b.words i h e;
          order = λ i j h e. in_order (constant_named w) i j h e;
          onto = λ j h. let p = onto (constant_named w) m j h in (p.place, p.below, p.passes, p.number);
          kinds_freed = λ j h l. pooled_freed (constant_named w) m b.kinds j h l;
          words_freed = λ j h l. pooled_freed (constant_named w) m b.words j h l;
          ops = λ k h. recoded_op (before w) m w k h;
          marks = λ k h. recoded_mark (before w) m w k h;
          plain = λ k h e. unmarked_stays (before w) m w k h e;
          far = λ k h e. far_stays (before w) m w k h e;
          near = λ k h e l. near_moves (before w) m w k h e l;
          loads_kind = λ k h e. loads_same w b.kinds m k h e;
          loads_word = λ k h e. loads_same w b.words m k h e;
          scratch = refl;
        })

    -- with refusal 0, asked again
    pub cleared_twice : r.refusal ≡ 0 → (s : Answer) (y : PoolBuffers) → ClearCall r.first a s y → ClearedTwice r a s y
    cleared_twice z s y u =
        let e = answered_clear m b r a x z in
        let t = clear_twice b m r.first a e in
        let o = clear_call a r.first in
        let w : clear_call a r.first ≡ clear_outcome (Is r.first) o.after = ap (λ (v : ClearAnswer). clear_outcome v o.after) t.answer in
        let i = clear_answers r.first a s y u r.first o.after w in
        let j = clear_answers m b r a x r.first a e in
        record {
          answer = i.0 ∙ sym j.0;
          code = ap (λ (v : PoolBuffers). v.code) i.1 ∙ t.code;
          kinds = ap (λ (v : PoolBuffers). v.kinds) i.1 ∙ t.kinds;
          words = ap (λ (v : PoolBuffers). v.words) i.1 ∙ t.words;
          scratch = ap (λ (v : PoolBuffers). v.scratch) i.1 ∙ t.scratch;
        }

pub clear_settles : (m : ℕ) → Settles (ClearCall m) (ClearBeyond m)
clear_settles m =
    record {
      one = λ b r r' a a' x y. one_clear b m r r' a a' x y;
      refusal = λ b r a x h. clear_refusal m b r a x h;
      beyond = λ b r a x. clear_beyond m b r a x;
    }
