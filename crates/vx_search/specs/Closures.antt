-- What the calls of a closure answer, at places below a number, from a state on.
use Rattle.std.specs.Prelude.{◌≡◌, ℕ, zero, suc, ◌<◌, ◌≤◌, List, [], ◌∷◌, length, Result, Err}
use denote.Param.Members.{Mut}
use Rattle.std.specs.Fn.{Called}

module _ {F R : Type 0} (g : Mut F (ℕ × Unit {0}) R) (n : ℕ) (P : ℕ → R → Type 0) where
  -- each call in turn may be made, and P holds of its place and its answer
  abbrev pub AnswersEach : F → List ℕ → Type 0
  AnswersEach f [] = Unit {0}
  AnswersEach f (k ∷ ks) = k < n → g.pre f (k, tt) × ((r : R) (f' : F) → Called g f (k, tt) r f' → P k r × AnswersEach f' ks)

  -- and so of at most so many calls
  pub record AnswersBelow (calls : ℕ) (f : F) : Type 0 where
    pub at : (ks : List ℕ) → length ks ≤ calls → AnswersEach f ks

-- so many calls, each at a place below n, may lead from one state to another
abbrev pub Reaches : {F R : Type 0} → Mut F (ℕ × Unit {0}) R → ℕ → F → ℕ → F → Type 0
Reaches g n start zero f = f ≡ start
Reaches {F} {R} g n start (suc calls) f = (before : F) × (k : ℕ) × (r : R) × (k < n) × Called g before (k, tt) r f × Reaches g n start calls before

-- one of the first so many calls, at a place below n, refuses so
pub record RefusesBelow {F A E : Type 0} (g : Mut F (ℕ × Unit {0}) (Result A E)) (n calls : ℕ) (start : F) (e : E) : Type 0 where
  pub earlier : ℕ
  pub few : earlier < calls
  pub state : F
  pub reached : Reaches g n start earlier state
  pub asked : ℕ
  pub inside : asked < n
  pub after : F
  pub refused : Called g state (asked, tt) (Err e) after
