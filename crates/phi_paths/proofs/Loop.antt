-- The search's loop over instructions: what its turns are in the laws of a search. Assumes nothing.
use mathlib.Core.Path.{◌≡◌, sym, ◌∙◌, ap}
use mathlib.Core.Bool.{Bool, true, false}
use mathlib.Core.List.{List}
use Prim.Native.Nat.{ℕ, ◌+◌, ◌-◌, ◌/◌, ◌<◌}
use lib.ListN.{length, get_or, set}
use mir.Val.{bool_byte}
use Rattle.code.specs.Ins.{ins_at, count}
use Rattle.code.specs.declared.Ins.{Ins}
use Rattle.roles.specs.Kinds.{is_jump}
use Rattle.paths.specs.Search.{ways}
use Rattle.paths.specs.Inner.{pushed, Searched, owed}
use Rattle.paths.proofs.Loop as path
use Rattle.phi_paths.specs.Read.{phi_reads, stops, goes_on, reads_at, stops_at, leads_at, Read}
use Rattle.phi_paths.specs.Inner.{PhiRoom}

abbrev pub Loop : List ℕ → ℕ → ℕ → List ℕ → List ℕ → List ℕ → List ℕ → ℕ → Type 0
Loop w r start seen₀ todo₀ seen todo top = path.Loop (count w) (reads_at w r) (stops_at w r) (leads_at w) start seen₀ todo₀ seen todo top

pub enters : (w : List ℕ) (r start : ℕ) (seen₀ todo₀ : List ℕ) → PhiRoom w seen₀ todo₀ → ((j : ℕ) → j < length w / 6 → get_or seen₀ j 0 ≡ 0)
    → Loop w r start seen₀ (set todo₀ 0 start) seen₀ (set todo₀ 0 start) 1
enters w r start seen₀ todo₀ m none =
    path.enters (count w) (reads_at w r) (stops_at w r) (leads_at w) start seen₀ todo₀ (record { few = m.few; marks = m.marks; waiting = m.waiting }) none

-- a test of the instruction at j is one of j
module _ (w : List ℕ) (r j : ℕ) (i : Ins) (at : i ≡ ins_at w j) where
  read_is : (b t : Bool) → b ≡ phi_reads i r → b ≡ t → reads_at w r j ≡ t
  unfolding reads_at
  read_is b t e f = sym (ap (λ (x : Ins). phi_reads x r) at) ∙ sym e ∙ f

  stop_is : (b t : Bool) → b ≡ stops i r → b ≡ t → stops_at w r j ≡ t
  unfolding stops_at
  stop_is b t e f = sym (ap (λ (x : Ins). stops x r) at) ∙ sym e ∙ f

  ways_are : ways (goes_on i) (j + 1) (is_jump i) i.a ≡ leads_at w j
  unfolding leads_at
  ways_are = rw at

module _ (w : List ℕ) (r start : ℕ) (seen₀ todo₀ seen todo : List ℕ) (top : ℕ) (l : Loop w r start seen₀ todo₀ seen todo top) (some : 0 < top)
    (j : ℕ) (popped : j ≡ get_or todo (top - 1) 0) (h : j < length w / 6) (fresh : get_or seen j 0 ≡ 0) (i : Ins) (at : i ≡ ins_at w j)
    (b : Bool) (e : b ≡ phi_reads i r) (t : b ≡ false) (d : Bool) (f : d ≡ stops i r) where
  pub stands : d ≡ true → Loop w r start seen₀ todo₀ (set seen j 1) todo (top - 1)
  stands u =
      path.stands (count w) (reads_at w r) (stops_at w r) (leads_at w) start seen₀ todo₀ seen todo top l some j popped h fresh
      (read_is w r j i at b false e t) (stop_is w r j i at d true f u)

  module _ (u : d ≡ false) (top₂ : ℕ) (todo₂ : List ℕ)
      (q : top₂ ≡ (top - 1) + bool_byte (goes_on i) + bool_byte (is_jump i))
      (q' : todo₂ ≡ pushed (pushed todo (top - 1) (j + 1) (goes_on i)) ((top - 1) + bool_byte (goes_on i)) i.a (is_jump i)) where
    pub falls_go : owed (leads_at w) (set seen j 1) (length w / 6) + top₂ < owed (leads_at w) seen (length w / 6) + top
    falls_go =
        path.falls_go (count w) (reads_at w r) (stops_at w r) (leads_at w) start seen₀ todo₀ seen todo top l some j popped h fresh
        (read_is w r j i at b false e t) (stop_is w r j i at d false f u)
        (goes_on i) (is_jump i) (j + 1) i.a (ways_are w r j i at) top₂ todo₂ q q'

    pub goes : Loop w r start seen₀ todo₀ (set seen j 1) todo₂ top₂
    goes =
        path.goes (count w) (reads_at w r) (stops_at w r) (leads_at w) start seen₀ todo₀ seen todo top l some j popped h fresh
        (read_is w r j i at b false e t) (stop_is w r j i at d false f u)
        (goes_on i) (is_jump i) (j + 1) i.a (ways_are w r j i at) top₂ todo₂ q q'

-- a read is found
pub tells : (w : List ℕ) (r start : ℕ) (seen₀ todo₀ seen todo : List ℕ) (top : ℕ) → Loop w r start seen₀ (set todo₀ 0 start) seen todo top → 0 < top
    → (j : ℕ) → j ≡ get_or todo (top - 1) 0 → j < length w / 6 → get_or seen j 0 ≡ 0 → (i : Ins) → i ≡ ins_at w j → (b : Bool) → b ≡ phi_reads i r → b ≡ true
    → Searched (Read w r start) (length w / 6) seen₀ todo₀ true (set seen j 1) todo
tells w r start seen₀ todo₀ seen todo top l some j popped h fresh i at b e t =
    path.tells (count w) (reads_at w r) (stops_at w r) (leads_at w) start seen₀ todo₀ seen todo top l some j popped h fresh (read_is w r j i at b true e t)

pub ruleset turn = (enters, stands, falls_go, goes, tells)
