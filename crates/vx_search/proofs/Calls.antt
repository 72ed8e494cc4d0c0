-- One more call of a closure.
use Rattle.std.proofs.Common.{◌≡◌, ℕ, zero, suc, ◌+◌, ◌-◌, ◌<◌, ◌≤◌, arith, List, [], ◌∷◌, Result, Err, subst, sym}
use denote.Param.Members.{Mut}
use Rattle.std.specs.Fn.{Called}
use Rattle.vx_search.specs.Closures.{AnswersBelow, AnswersEach, Reaches, RefusesBelow}

module _ {F R : Type 0} (g : Mut F (ℕ × Unit {0}) R) (n : ℕ) (P : ℕ → R → Type 0) where
  pub may_call : (calls : ℕ) (f : F) (k : ℕ) → 0 < calls → k < n → AnswersBelow g n P calls f → g.pre f (k, tt)
  may_call calls f k some h a = (a.at (k ∷ []) (omega arith) h).0

  pub next_below : (calls left : ℕ) (f : F) (k : ℕ) (r : R) (f' : F) → left < calls → k < n → Called g f (k, tt) r f' → AnswersBelow g n P calls f
      → P k r × AnswersBelow g n P left f'
  next_below calls left f k r f' fewer h c a = (((a.at (k ∷ []) (omega arith) h).1 r f' c).0, record { at = λ ks few. ((a.at (k ∷ ks) (omega arith) h).1 r f' c).1 })

  below_upto : (m : ℕ) → m ≤ n → (ks : List ℕ) (f : F) → AnswersEach g n P f ks → AnswersEach g m P f ks
  below_upto m h [] f a = tt
  below_upto m h (k ∷ ks) f a = λ b. let here = a (omega (arith, h, b)) in (here.0, λ r f' c. let one = here.1 r f' c in (one.0, below_upto m h ks f' one.1))

  pub answers_upto : (m calls fewer : ℕ) → m ≤ n → fewer ≤ calls → (f : F) → AnswersBelow g n P calls f → AnswersBelow g m P fewer f
  answers_upto m calls fewer h less f a = record { at = λ ks few. below_upto m h ks f (a.at ks (omega arith)) }

  -- the calls that are left in a later state
  answers_left : (made calls left : ℕ) (start f : F) → made + left ≤ calls → Reaches g n start made f → AnswersBelow g n P calls start → AnswersBelow g n P left f
  answers_left zero calls left start f h e a = subst (AnswersBelow g n P left) (sym e) (answers_upto n calls left (omega arith) (omega arith) start a)
  answers_left (suc made) calls left start f h e a =
      (next_below (suc left) left e.0 e.1 e.2 f (omega arith) e.3 e.4 (answers_left made calls (suc left) start e.0 (omega arith) e.5 a)).1

module _ {F A E : Type 0} (g : Mut F (ℕ × Unit {0}) (Result A E)) (n : ℕ) where
  -- what holds of each answer holds of a refusal
  pub refusal_answers : (P : ℕ → Result A E → Type 0) (calls : ℕ) (f : F) (e : E) → AnswersBelow g n P calls f → RefusesBelow g n calls f e
      → (k : ℕ) × (k < n) × P k (Err e)
  refusal_answers P calls f e a r =
      let now = answers_left g n P r.earlier calls (calls - r.earlier) f r.state (omega (arith, r.few)) r.reached a in
      (r.asked, r.inside, (next_below g n P (calls - r.earlier) 0 r.state r.asked (Err e) r.after (omega (arith, r.few)) r.inside r.refused now).0)

  pub refuses_here : (calls earlier : ℕ) (start f : F) (k : ℕ) (r : Result A E) (e : E) (after : F) → earlier < calls → k < n → Reaches g n start earlier f
      → r ≡ Err e → Called g f (k, tt) r after → RefusesBelow g n calls start e
  refuses_here calls earlier start f k r e after few inside reached is c = record {
    earlier = earlier;
    few = few;
    state = f;
    reached = reached;
    asked = k;
    inside = inside;
    after = after;
    refused = subst (λ (x : Result A E). Called g f (k, tt) x after) is c;
  }

  reaches_upto : (m : ℕ) → n ≤ m → (made : ℕ) (start f : F) → Reaches g n start made f → Reaches g m start made f
  reaches_upto m h zero start f e = e
  reaches_upto m h (suc made) start f e = (e.0, e.1, e.2, omega (arith, e.3), e.4, reaches_upto m h made start e.0 e.5)

  pub refuses_upto : (m calls more : ℕ) (start : F) (e : E) → n ≤ m → calls ≤ more → RefusesBelow g n calls start e → RefusesBelow g m more start e
  refuses_upto m calls more start e h less r = record {
    earlier = r.earlier;
    few = omega (arith, r.few);
    state = r.state;
    reached = reaches_upto m h r.earlier start r.state r.reached;
    asked = r.asked;
    inside = omega (arith, r.inside);
    after = r.after;
    refused = r.refused;
  }

-- a closure of whose state something stays true, under which it may be called any number of times, and answers so
module _ {F R : Type 0} (g : Mut F (ℕ × Unit {0}) R) (n : ℕ) (P : ℕ → R → Type 0) (I : F → Type 0)
    (may : (f : F) (k : ℕ) → I f → k < n → g.pre f (k, tt))
    (told : (f : F) (k : ℕ) (r : R) (f' : F) → I f → k < n → Called g f (k, tt) r f' → P k r × I f') where
  each_by : (ks : List ℕ) (f : F) → I f → AnswersEach g n P f ks
  each_by [] f i = tt
  each_by (k ∷ ks) f i = λ h. (may f k i h, λ r f' c. let t = told f k r f' i h c in (t.0, each_by ks f' t.1))

  pub answers_by : {calls : ℕ} (f : F) → I f → AnswersBelow g n P calls f
  answers_by f i = record { at = λ ks few. each_by ks f i }
