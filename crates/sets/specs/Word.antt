-- Words of any type as numbers, and how many make a set. Assumes nothing.
use Rattle.std.proofs.Common.{arith}
use Rattle.std.specs.Prelude.{ℕ, List, refl, ◌≡◌, ◌++◌, ◌*◌, ◌≤◌, ◌<◌, length, get_or, set, take, drop}
use Rattle.std.proofs.lemmas.List.{get_or_default}

-- a width of words, and so many of them in hand: together they hold 1,024 registers
pub record Width (bits hand : ℕ) : Type 0 where
  pub some : 0 < bits
  pub more : 0 < hand
  pub few : hand ≤ 1024
  pub span : hand * bits ≡ 1024

pub width_64 : Width 64 16
width_64 = record { some = omega arith; more = omega arith; few = omega arith; span = refl }

pub width_32 : Width 32 32
width_32 = record { some = omega arith; more = omega arith; few = omega arith; span = refl }

-- the numbers of words are those of each word, in their order
pub record Numbered {W : Type 0} (num : W → ℕ) (nums : List W → List ℕ) : Type 0 where
  pub long : (xs : List W) → length (nums xs) ≡ length xs
  pub read : (xs : List W) (k : ℕ) (d : W) → k < length xs → get_or (nums xs) k 0 ≡ num (get_or xs k d)
  pub written : (xs : List W) (k : ℕ) (x : W) → nums (set xs k x) ≡ set (nums xs) k (num x)
  pub first : (n : ℕ) (xs : List W) → nums (take n xs) ≡ take n (nums xs)
  pub later : (n : ℕ) (xs : List W) → nums (drop n xs) ≡ drop n (nums xs)
  pub both : (xs ys : List W) → nums (xs ++ ys) ≡ nums xs ++ nums ys

-- a word that is a number is its own
pub plain : Numbered {W = ℕ} (λ x. x) (λ xs. xs)
plain = record {
  long = λ xs. refl;
  read = λ xs k d l. get_or_default xs k 0 d l;
  written = λ xs k x. refl;
  first = λ n xs. refl;
  later = λ n xs. refl;
  both = λ xs ys. refl;
}
