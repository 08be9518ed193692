-- Where no transition is pending at a component, nothing is exactly where no port is busy.
use Rattle.std.proofs.Common.{◌≡◌, ◌≢◌, ◌<◌, ℕ, zero, suc, nat_eq, Bool, true, false, not, ◌||◌, if◌then◌else◌, get_or, List, [], ◌∷◌, All, length, set, map, replicate, Option, Some, None, option_map, slice_get, is_some, refl, sym, ◌∙◌, ap, subst, inl, inr}
use Rattle.std.specs.Bool.{IsTrue}
use Rattle.std.proofs.Math.Logic.{◌↔◌}
use Rattle.std.proofs.lemmas.Bool.Decides.{eqb_tells}
use Rattle.std.proofs.lemmas.Option.{slice_get_within, slice_get-map, slice_get-get_or, get_or_from_slice_get}
use Rattle.std.proofs.lemmas.List.Elements.{All-nil, All-cons, All-get_or, All-replicate}
use Rattle.bit_set.specs.Members.{has}
use Rattle.il_machine.specs.declared.answer.Pending.{Pending}
use Rattle.il_machine.specs.declared.port.Mark.{Mark}
use Rattle.il_machine.specs.declared.port.PortState.{PortState}
use Rattle.il_machine.specs.Lists.{holds_at}
use Rattle.il_machine.specs.World.{fresh_port}
use Rattle.il_machine.specs.Commands.{calmed}
use Rattle.il_machine.specs.Due.{unheld}
use Rattle.il_machine.specs.Ports.{IsCalm, IsCalmPort, is_steady}
use Rattle.il_component.specs.Busy.{AreBusy, is_busy}
use Rattle.il_component.specs.Entries.{Entry, component_of}

-- ---- one port

all_false : (a b d : Bool) → (a || b || d) ≡ false → (a ≡ false) × (b ≡ false) × (d ≡ false)
all_false true b d e = absurd cc
all_false false true d e = absurd cc
all_false false false d e = (refl, refl, e)

was_true : (b : Bool) → not b ≡ false → b ≡ true
was_true true e = refl
was_true false e = absurd cc

no_mark : (o : Option Mark) → is_some o ≡ false → o ≡ None
no_mark None e = refl
no_mark (Some mark) e = absurd cc

pub idle_calm : (p : PortState) → is_busy p ≡ false → IsCalmPort p
idle_calm p e =
    let parts = all_false p.flushing (not (is_steady p.mode)) (is_some p.waiting_mark) e in
    record { steady = was_true (is_steady p.mode) parts.1; quiet = parts.0; unmarked = no_mark p.waiting_mark parts.2 }

pub calm_idle : (p : PortState) → IsCalmPort p → is_busy p ≡ false
calm_idle p calm = rw (calm.quiet, calm.steady, calm.unmarked) refl

-- ---- the component

no_pending : (o : Option Pending) → is_some o ≡ false → o ≡ None
no_pending None e = refl
no_pending (Some p) e = absurd cc

ports_calm : (ps : List PortState) → ((i : ℕ) (p : PortState) → slice_get ps i ≡ Some p → is_busy p ≡ false) → All IsCalmPort ps
ports_calm [] f = All-nil IsCalmPort
ports_calm (p ∷ ps) f = All-cons IsCalmPort p ps (idle_calm p (f 0 p refl)) (ports_calm ps (λ i q at. f (suc i) q at))

calm_there : (ps : List PortState) (i : ℕ) (p : PortState) → slice_get ps i ≡ Some p → All IsCalmPort ps → IsCalmPort p
calm_there ps i p at calm = subst IsCalmPort (get_or_from_slice_get ps i p p at) (All-get_or IsCalmPort ps i p (slice_get_within ps i p at) calm)

idle_at : (ps : List PortState) (i : ℕ) (o : Option PortState) → slice_get ps i ≡ o → All IsCalmPort ps → holds_at o is_busy ≡ false
idle_at ps i None at calm = refl
idle_at ps i (Some p) at calm = calm_idle p (calm_there ps i p at calm)

-- where no transition is pending
pub calm_is : {C : Type 0} (e : Entry C) (busy : ℕ) (b : Bool) → AreBusy e.ports busy → is_some e.pending ≡ false → IsTrue b ↔ ((i : ℕ) → has busy i ≡ false) → IsTrue b ↔ IsCalm (component_of e)
calm_is e busy b A o D = (
  λ t.
      let none = D.0 t in
      record {
        resting = no_pending e.pending o;
        ports = ports_calm e.ports (λ i p at. sym (A.each i ∙ ap (λ (x : Option PortState). holds_at x is_busy) at) ∙ none i);
      },
  λ calm. D.1 (λ i. A.each i ∙ idle_at e.ports i (slice_get e.ports i) refl calm.ports),
)

-- ---- the busy ports, as ports change

read_here : (ps : List PortState) (i : ℕ) (p q : PortState) → slice_get ps i ≡ Some p → slice_get (set ps i q) i ≡ Some q
read_here [] i p q at = absurd cc
read_here (x ∷ ps) zero p q at = refl
read_here (x ∷ ps) (suc i) p q at = read_here ps i p q at

read_else : (ps : List PortState) (i j : ℕ) (q : PortState) → j ≢ i → slice_get (set ps i q) j ≡ slice_get ps j
read_else [] i j q n = refl
read_else (x ∷ ps) zero zero q n = absurd (n refl)
read_else (x ∷ ps) zero (suc j) q n = refl
read_else (x ∷ ps) (suc i) zero q n = refl
read_else (x ∷ ps) (suc i) (suc j) q n = read_else ps i j q (λ e. n (ap suc e))

-- a port that changes stays busy where it was, and only there
pub busy_set : (ps : List PortState) (busy i : ℕ) (p q : PortState) → AreBusy ps busy → slice_get ps i ≡ Some p → is_busy q ≡ is_busy p → AreBusy (set ps i q) busy
busy_set ps busy i p q A at same = record {
  each = λ j. A.each j ∙ sym (elim (eqb_tells j i) [
    | inl e ↦ ap (λ (k : ℕ). holds_at (slice_get (set ps i q) k) is_busy) e.1 ∙ (ap (λ (x : Option PortState). holds_at x is_busy) (read_here ps i p q at) ∙ (same ∙ (ap (λ (x : Option PortState). holds_at x is_busy) (sym at) ∙ ap (λ (k : ℕ). holds_at (slice_get ps k) is_busy) (sym e.1))))
    | inr e ↦ ap (λ (x : Option PortState). holds_at x is_busy) (read_else ps i j q e.1)
  ]);
}

unheld_same : (o : Option PortState) → holds_at (option_map unheld o) is_busy ≡ holds_at o is_busy
unheld_same None = refl
unheld_same (Some p) = refl

rest_none : (o : Option PortState) → holds_at (option_map calmed o) is_busy ≡ false
rest_none None = refl
rest_none (Some p) = refl

-- so do all ports that are let go
pub busy_unheld : (ps : List PortState) (busy : ℕ) → AreBusy ps busy → AreBusy (map unheld ps) busy
busy_unheld ps busy A = record { each = λ j. A.each j ∙ sym (ap (λ (x : Option PortState). holds_at x is_busy) (slice_get-map unheld ps j) ∙ unheld_same (slice_get ps j)) }

-- no port that was put to rest is busy
pub rest_idle : (ps : List PortState) (busy : ℕ) → ((i : ℕ) → has busy i ≡ false) → AreBusy (map calmed ps) busy
rest_idle ps busy f = record { each = λ j. f j ∙ sym (ap (λ (x : Option PortState). holds_at x is_busy) (slice_get-map calmed ps j) ∙ rest_none (slice_get ps j)) }

-- nor is one that was just made
pub fresh_idle : (n busy : ℕ) → ((i : ℕ) → has busy i ≡ false) → AreBusy (replicate n fresh_port) busy
fresh_idle n busy f = record { each = λ j. f j ∙ sym (idle_at (replicate n fresh_port) j (slice_get (replicate n fresh_port) j) refl (All-replicate IsCalmPort n fresh_port (record { steady = refl; quiet = refl; unmarked = refl }))) }

-- ---- one port has another state

bit_here : (b was now : Bool) → b ≡ true → (if b then now else was) ≡ now
bit_here true was now e = refl
bit_here false was now e = absurd cc

bit_else : (b was now : Bool) → b ≡ false → (if b then now else was) ≡ was
bit_else true was now e = absurd cc
bit_else false was now e = refl

pub busy_put : (ps : List PortState) (busy next i : ℕ) (q : PortState) → AreBusy ps busy → i < length ps → ((j : ℕ) → has next j ≡ (if nat_eq j i then is_busy q else has busy j)) → AreBusy (set ps i q) next
busy_put ps busy next i q A b f = record {
  each = λ j. elim (eqb_tells j i) [
    | inl e ↦
        let p = get_or ps i q in
        let at : slice_get ps i ≡ Some p = slice_get-get_or ps i q b in
        f j ∙ (bit_here (nat_eq j i) (has busy j) (is_busy q) e.0 ∙ sym (ap (λ (k : ℕ). holds_at (slice_get (set ps i q) k) is_busy) e.1 ∙ ap (λ (x : Option PortState). holds_at x is_busy) (read_here ps i p q at)))
    | inr e ↦ f j ∙ (bit_else (nat_eq j i) (has busy j) (is_busy q) e.0 ∙ (A.each j ∙ sym (ap (λ (x : Option PortState). holds_at x is_busy) (read_else ps i j q e.1))))
  ];
}
