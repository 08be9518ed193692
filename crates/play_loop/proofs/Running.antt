-- Acts behind acts, and turns behind turns.
use Rattle.std.proofs.Common.{◌≡◌, ◌⊎◌, inl, inr, ℕ, ◌+◌, ◌<◌, Bool, true, false, ◌||◌, List, [], ◌∷◌, ◌++◌, length, length-append, refl, sym, ◌∙◌, ap, subst, arith}
use Rattle.play_model.proofs.Queues.{either}
use Rattle.play_model.specs.Play.{Layout, Play}
use Rattle.play_model.specs.Acts.{Act, CanAct, CanActs, acted, all_acted}
use Rattle.play_loop.specs.Turns.{CanNone, HasActed, HasRun, IsAtRest, SomePlay, Turned, TurnsOf}

-- ---- acts

can_both : (w : Layout) (p : Play) (one other : List Act) → CanActs w p one → CanActs w (all_acted w one p) other → CanActs w p (one ++ other)
can_both w p [] other C D = D
can_both w p (a ∷ one) other C D = (C.0, can_both w (acted w a p) one other C.1 D)

all_both : (w : Layout) (p : Play) (one other : List Act) → all_acted w (one ++ other) p ≡ all_acted w other (all_acted w one p)
all_both w p [] other = refl
all_both w p (a ∷ one) other = all_both w (acted w a p) one other

pub no_run : (w : Layout) (p : Play) → HasRun w p p
no_run w p = record { acts = []; enabled = tt; after = refl }

pub acted_run : (w : Layout) (p q : Play) → HasActed w p q → HasRun w p q
acted_run w p q A = record { acts = A.acts; enabled = A.enabled; after = A.after }

pub run_more : (w : Layout) (p q r : Play) → HasRun w p q → HasRun w q r → HasRun w p r
run_more w p q r A B = record {
  acts = A.acts ++ B.acts;
  enabled = can_both w p A.acts B.acts A.enabled (subst (λ (x : Play). CanActs w x B.acts) A.after B.enabled);
  after = B.after ∙ ap (all_acted w B.acts) A.after ∙ sym (all_both w p A.acts B.acts);
}

acted_more : (w : Layout) (p q r : Play) → HasActed w p q → HasActed w q r → HasActed w p r
unfolding run_more acted_run
acted_more w p q r A B =
    let C = run_more w p q r (acted_run w p q A) (acted_run w q r B) in
    let s = A.some in
    record { acts = A.acts ++ B.acts; some = omega (arith, length-append A.acts B.acts); enabled = C.enabled; after = C.after }

-- ---- turns

-- acts of one turn, or of the other
abbrev pub OfBoth : (Act → Type 0) → (Act → Type 0) → Act → Type 0
OfBoth P Q a = P a ⊎ Q a

-- one turn, and then another
pub turn_more : (w : Layout) (p q r : Play) (one other : Bool) (P Q : Act → Type 0) → Turned w p q one P → Turned w q r other Q → Turned w p r (one || other) (OfBoth P Q)
turn_more w p q r false false P Q T U = (
  U.0 ∙ T.0,
  λ a o C. elim o [
    | inl one ↦ T.1 a one C
    | inr other ↦ U.1 a other (subst (λ (x : Play). CanAct w x a) (sym T.0) C)
  ],
)
turn_more w p q r false true P Q T U = (subst (λ (x : Play). HasActed w x r) T.0 U.0, U.1)
turn_more w p q r true false P Q T U = (subst (HasActed w p) (sym U.0) T.0, subst (IsAtRest w) (sym U.0) T.1)
turn_more w p q r true true P Q T U = (acted_more w p q r T.0 U.0, U.1)

-- the acts of a turn are those of the other
pub turn_of : (w : Layout) (p q : Play) (did : Bool) (P Q : Act → Type 0) → ((a : Act) → Q a → P a) → Turned w p q did P → Turned w p q did Q
turn_of w p q true P Q more T = T
turn_of w p q false P Q more T = (T.0, λ a o C. T.1 a (more a o) C)

-- ---- of each play that is stood for

pub turns_more : (w : Layout) (old mid new : Play → Type 0) (one other : Bool) (P Q : Act → Type 0) → TurnsOf w old mid one P → TurnsOf w mid new other Q → TurnsOf w old new (one || other) (OfBoth P Q)
turns_more w old mid new one other P Q T U = λ p s.
    let t = T p s in
    let u = U t.0 t.1 in
    (u.0, u.1, turn_more w p t.0 u.0 one other P Q t.2 u.2)

pub some_then : (w : Layout) (old new : Play → Type 0) (did : Bool) (P : Act → Type 0) → TurnsOf w old new did P → SomePlay old → SomePlay new
some_then w old new did P T (p, s) = let t = T p s in (t.0, t.1)
