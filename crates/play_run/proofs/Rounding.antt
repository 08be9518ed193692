-- The turns of a link and of a component, made of their calls.
use Rattle.std.proofs.Common.{◌≡◌, inl, inr, ◌≤◌, ℕ, Bool, true, false, ◌||◌, length, refl, sym, ◌∙◌, ap, subst, arith}
use Rattle.play_forms.specs.Plans.{PlanValue}
use Rattle.play_model.specs.Play.{Layout, Play}
use Rattle.play_model.specs.Acts.{Act}
use Rattle.play_loop.specs.Turns.{IsOfComponent, IsOfLink, SomePlay, Turned}
use Rattle.play_loop.proofs.Running.{OfBoth, turn_more, turn_of}
use Rattle.play_world_laws.specs.Tellings.{IsTellingOf}
use Rattle.play_turn_laws.specs.Turns.{IsAct, IsBackOf, IsRunOf, IsStepOf}
use Rattle.play_run.specs.Playing.{IsPlaying, IsStanding, PlayingValue, TurnsTo, layout_of}
use Rattle.play_run.proofs.Counting.{sum_least}

module _ {S K : Type 0} where
  pub some_next : (x y : PlayingValue S K) (did : Bool) (P : Act → Type 0) → TurnsTo x y did P → SomePlay (IsPlaying x) → SomePlay (IsPlaying y)
  some_next x y did P T (p, Y) = let t = T p Y in (t.0, t.1)

  pub then_turns : (x y z : PlayingValue S K) → y.plan ≡ x.plan → (one other : Bool) (P Q : Act → Type 0) → TurnsTo x y one P → TurnsTo y z other Q → TurnsTo x z (one || other) (OfBoth P Q)
  then_turns x y z same one other P Q T U = λ p Y.
      let t = T p Y in
      let u = U t.0 t.1 in
      let then : Turned (layout_of x.plan) t.0 u.0 other Q = subst (λ (plan : PlanValue). Turned (layout_of plan) t.0 u.0 other Q) same u.2 in
      (u.0, u.1, turn_more (layout_of x.plan) p t.0 u.0 one other P Q t.2 then, u.3 ∙ t.3)

  pub as_turn : (x y : PlayingValue S K) (did : Bool) (P Q : Act → Type 0) → ((a : Act) → Q a → P a) → TurnsTo x y did P → TurnsTo x y did Q
  as_turn x y did P Q more T = λ p Y. let t = T p Y in (t.0, t.1, turn_of (layout_of x.plan) p t.0 did P Q more t.2, t.3)

-- ---- a link

abbrev pub OfLink : ℕ → Act → Type 0
OfLink l = OfBoth (OfBoth (OfBoth (IsAct (Act.Supply l)) (IsAct (Act.Release l))) (IsAct (Act.HandOver l))) (IsBackOf l)

link_acts : (l : ℕ) (a : Act) → IsOfLink l a → OfLink l a
link_acts l Act.Begin o = absurd o
link_acts l (Act.Send k) o = absurd o
link_acts l (Act.Run k) o = absurd o
link_acts l (Act.Happen k) o = absurd o
link_acts l (Act.Tell k) o = absurd o
link_acts l (Act.TellEnd k) o = absurd o
link_acts l (Act.Supply k) o = inl (inl (inl (ap Act.Supply o)))
link_acts l (Act.Release k) o = inl (inl (inr (ap Act.Release o)))
link_acts l (Act.HandOver k) o = inl (inr (ap Act.HandOver o))
link_acts l (Act.HandBack k) o = inr o
link_acts l (Act.HandUnused k) o = inr o
link_acts l (Act.Announce k) o = absurd o
link_acts l (Act.TellSettings k) o = absurd o
link_acts l (Act.Conduct k) o = absurd o
link_acts l (Act.RunPort k output) o = absurd o
link_acts l (Act.HappenPort k output) o = absurd o
link_acts l (Act.TellPort k output) o = absurd o
link_acts l (Act.Step c n last) o = absurd o

pub link_turns : {S K : Type 0} (x y : PlayingValue S K) (did : Bool) (l : ℕ) → TurnsTo x y did (OfLink l) → TurnsTo x y did (IsOfLink l)
link_turns x y did l T = as_turn x y did (OfLink l) (IsOfLink l) (link_acts l) T

pub whole_turn : {S K : Type 0} (x a b o k : PlayingValue S K) (l : ℕ) (supplied released over back : Bool) → a.plan ≡ x.plan → b.plan ≡ a.plan → o.plan ≡ b.plan
    → TurnsTo x a supplied (IsAct (Act.Supply l)) → TurnsTo a b released (IsAct (Act.Release l)) → TurnsTo b o over (IsAct (Act.HandOver l)) → TurnsTo o k back (IsBackOf l) → TurnsTo x k (supplied || released || over || back) (IsOfLink l)
whole_turn x a b o k l supplied released over back e f h A B O K =
    let two = then_turns x a b e supplied released (IsAct (Act.Supply l)) (IsAct (Act.Release l)) A B in
    let three = then_turns x b o (f ∙ e) (supplied || released) over (OfBoth (IsAct (Act.Supply l)) (IsAct (Act.Release l))) (IsAct (Act.HandOver l)) two O in
    let four = then_turns x o k (h ∙ (f ∙ e)) (supplied || released || over) back (OfBoth (OfBoth (IsAct (Act.Supply l)) (IsAct (Act.Release l))) (IsAct (Act.HandOver l))) (IsBackOf l) three K in
    link_turns x k (supplied || released || over || back) l four

-- ---- a component

abbrev pub OfComponent : Layout → ℕ → Act → Type 0
OfComponent w c = OfBoth (OfBoth (IsTellingOf w c) (IsRunOf w c)) (IsStepOf w c)

component_acts : (w : Layout) (c : ℕ) (a : Act) → IsOfComponent w c a → OfComponent w c a
component_acts w c Act.Begin o = absurd o
component_acts w c (Act.Send k) o = absurd o
component_acts w c (Act.Run k) o = inl (inr o)
component_acts w c (Act.Happen k) o = absurd o
component_acts w c (Act.Tell k) o = inl (inl o)
component_acts w c (Act.TellEnd k) o = inl (inl o)
component_acts w c (Act.Supply k) o = absurd o
component_acts w c (Act.Release k) o = absurd o
component_acts w c (Act.HandOver k) o = absurd o
component_acts w c (Act.HandBack k) o = absurd o
component_acts w c (Act.HandUnused k) o = absurd o
component_acts w c (Act.Announce l) o = inr o
component_acts w c (Act.TellSettings l) o = inl (inl o)
component_acts w c (Act.Conduct l) o = absurd o
component_acts w c (Act.RunPort l output) o = inl (inr o)
component_acts w c (Act.HappenPort l output) o = absurd o
component_acts w c (Act.TellPort l output) o = inl (inl o)
component_acts w c (Act.Step k n last) o = inr o

pub actor_turn : {S K : Type 0} (x a b k : PlayingValue S K) (c : ℕ) (told ran stepped : Bool) → a.plan ≡ x.plan → b.plan ≡ a.plan
    → TurnsTo x a told (IsTellingOf (layout_of x.plan) c) → TurnsTo a b ran (IsRunOf (layout_of a.plan) c) → TurnsTo b k stepped (IsStepOf (layout_of b.plan) c) → TurnsTo x k (told || ran || stepped) (IsOfComponent (layout_of x.plan) c)
actor_turn x a b k c told ran stepped e f A B K =
    let w = layout_of x.plan in
    let B2 : TurnsTo a b ran (IsRunOf w c) = subst (λ (plan : PlanValue). TurnsTo a b ran (IsRunOf (layout_of plan) c)) e B in
    let K2 : TurnsTo b k stepped (IsStepOf w c) = subst (λ (plan : PlanValue). TurnsTo b k stepped (IsStepOf (layout_of plan) c)) (f ∙ e) K in
    let two = then_turns x a b e told ran (IsTellingOf w c) (IsRunOf w c) A B2 in
    let three = then_turns x b k (f ∙ e) (told || ran) stepped (OfBoth (IsTellingOf w c) (IsRunOf w c)) (IsStepOf w c) two K2 in
    as_turn x k (told || ran || stepped) (OfComponent w c) (IsOfComponent w c) (component_acts w c) three

-- ---- the log

pub wants_memory : (broken whole : Bool) → (broken ≡ false → whole ≡ true) → whole ≡ false → broken ≡ true
wants_memory true whole h e = refl
wants_memory false whole h e = let z : true ≡ false = sym (h refl) ∙ e in absurd cc

-- ---- how many links there are

pub standing_few : {S K : Type 0} (x : PlayingValue S K) (p : Play) → IsStanding x p → length x.plan.joints ≤ 1024
standing_few x p Z =
    let C = (Z.conducted).play.cast_is in
    let n = sum_least (length x.plan.joints) ((layout_of x.plan).network).count (λ k b. C.layout.network.count k b) in
    let m = C.few in
    omega arith

pub few_links : {S K : Type 0} (x : PlayingValue S K) → SomePlay (IsPlaying x) → length x.plan.joints ≤ 1024
few_links x (p, Y) = standing_few x p Y.standing
