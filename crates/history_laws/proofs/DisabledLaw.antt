-- A port whose disable is completed has no header.
use Rattle.std.proofs.Common.{◌≡◌, inl, inr, ℕ, suc, true, false, List, [], ◌∷◌, ◌++◌, slice_get, Option, Some, None, MatchOption, refl, sym, ◌∙◌, ap, subst, eqb-true, arith}
use Rattle.omx_types.specs.declared.command.Completion.TheVariants as completions
use Rattle.il_machine.specs.declared.port.Mode.{Mode}
use Rattle.il_machine.specs.declared.port.Mode.TheVariants.{Disabling}
use Rattle.il_machine.specs.declared.port.PortKey.{PortKey}
use Rattle.il_machine.specs.declared.port.Port.{Port}
use Rattle.il_machine.specs.Lists.{first_of_these}
use Rattle.il_machine.specs.World.{Component, World, ports_of, port_of}
use Rattle.il_machine.specs.Headers.{Seen, seen, is_for, count_headers}
use Rattle.il_machine.specs.Ports.{has_no_header}
use Rattle.il_machine.specs.Due.{Thing, Transition, Flush, PortMode, WaitingMark, is_transition_due, is_flush_due, is_mode_due, is_mark_due, things_of, due_in}
use Rattle.il_machine.specs.declared.header.HeaderState.{HeaderState}
use Rattle.il_machine.specs.Look.{look}
use Rattle.il_machine.specs.Acts.{Act, Reply}
use Rattle.il_machine.specs.Run.{Step, Meets}
use Rattle.il_machine.specs.Effect.{effect}
use Rattle.il_machine.specs.Trails.{Move, moves, trail, HasTrail, HaveTrails, IsTrailOfNone}
use Rattle.il_machine.specs.Sound.{Sound}
use Rattle.il_machine.specs.Queued.{Tells, WasIn, WasDue}
use Rattle.machine_laws.proofs.Finding.{either}
use Rattle.machine_laws.proofs.Keys.{there_is, is_there, none_or_some}
use Rattle.machine_laws.proofs.Lookups.{port_parts}
use Rattle.history_laws.specs.Settled.{AreAllBack, WasUnmade}
use Rattle.machine_laws.proofs.Ties.{counted}
use Rattle.history_laws.proofs.Homes.{found_state}
use Rattle.history_laws.proofs.TrailLaw.{times_trails, trails_after}

-- a port of the list whose mode is due
record HasMode (headers : Seen) (c : Component) (ps : List Port) (port : ℕ) : Type 0 where
  place : ℕ
  found : Port
  there : slice_get ps place ≡ Some found
  number : (found.key).port ≡ port
  due : is_mode_due headers c found (found.state).mode ≡ true

port_of_mode : (a b : ℕ) → Some (PortMode a) ≡ Some (PortMode b) → a ≡ b
port_of_mode a b e = let s : PortMode a ≡ PortMode b = cc in cc

mode_among : (headers : Seen) (c : Component) (ps : List Port) (port : ℕ) → first_of_these (things_of headers c ps) ≡ Some (PortMode port) → HasMode headers c ps port
mode_among headers c [] port e = absurd cc
mode_among headers c (p ∷ ps) port e =
    either (is_flush_due headers c p)
    (λ t. let s : Some (Flush p.key.port) ≡ Some (PortMode port) = rw t at e in let is : Flush p.key.port ≡ PortMode port = cc in absurd cc)
    (λ f. either (is_mode_due headers c p p.state.mode)
    (λ t.
    let s : Some (PortMode p.key.port) ≡ Some (PortMode port) = rw (f, t) at e in
    record { place = 0; found = p; there = refl; number = port_of_mode p.key.port port s; due = t })
    (λ g. either (is_mark_due headers p)
    (λ t. let s : Some (WaitingMark p.key.port) ≡ Some (PortMode port) = rw (f, g, t) at e in let is : WaitingMark p.key.port ≡ PortMode port = cc in absurd cc)
    (λ k.
    let more = mode_among headers c ps port (rw (f, g, k) at e) in
    record { place = suc more.place; found = more.found; there = more.there; number = more.number; due = more.due })))

mode_due : (headers : Seen) (c : Component) (port : ℕ) → due_in headers c ≡ Some (PortMode port) → HasMode headers c (ports_of c) port
mode_due headers c port e = either (is_transition_due headers c)
    (λ t. let s : Some Transition ≡ Some (PortMode port) = rw t at e in let is : Transition ≡ PortMode port = cc in absurd cc)
    (λ f. mode_among headers c (ports_of c) port (rw f at e))

-- the port of the number has its mode due
mode_due_at : (headers : Seen) (c : Component) (port : ℕ) → due_in headers c ≡ Some (PortMode port) → (p : Port) × (port_of c port ≡ Some p) × (is_mode_due headers c p p.state.mode ≡ true)
mode_due_at headers c port e =
    let m = mode_due headers c port e in
    let k : (m.found.key).port ≡ m.place = ap (λ (x : PortKey). x.port) (port_parts c m.place m.found m.there).key in
    let n : m.place ≡ port = sym k ∙ m.number in
    (m.found, subst (λ (x : ℕ). port_of c x ≡ Some m.found) n m.there, m.due)

disabling_unmade : (headers : Seen) (c : Component) (p : Port) (mode : Mode) → mode ≡ Disabling → is_mode_due headers c p mode ≡ true → has_no_header headers p ≡ true
disabling_unmade headers c p mode e d = rw e at d

unmade_at : (headers : Seen) (c : Component) (port : ℕ) → due_in headers c ≡ Some (PortMode port) → WasIn Disabling (port_of c port) → MatchOption (port_of c port) ⊥ (λ p. has_no_header headers p ≡ true)
unmade_at headers c port e W =
    let m = mode_due_at headers c port e in
    let w = there_is (port_of c port) _ W in
    let s : Some w.0 ≡ Some m.0 = sym w.1 ∙ m.1 in
    let is : w.0 ≡ m.0 = cc in
    let mode : (m.0).state.mode ≡ Disabling = rw is at w.2 in
    is_there (port_of c port) (λ p. has_no_header headers p ≡ true) m.0 m.1 (disabling_unmade headers c m.0 (m.0).state.mode mode m.2)

tells_unmade : (headers : Seen) (c : Component) (thing : Thing) (port : ℕ) → due_in headers c ≡ Some thing → Tells c thing (completions.Disable port) → MatchOption (port_of c port) ⊥ (λ p. has_no_header headers p ≡ true)
tells_unmade headers c Transition port e T = absurd T
tells_unmade headers c (Flush x) port e T = absurd T
tells_unmade headers c (WaitingMark x) port e T = absurd T
tells_unmade headers c (PortMode x) port e T = subst (λ (k : ℕ). MatchOption (port_of c k) ⊥ (λ p. has_no_header headers p ≡ true)) T.0 (unmade_at headers c x e T.1)

-- ---- what had been made for the port

all_back : (w : World) (ms : List Move) (p : Port) → HaveTrails w ms → has_no_header (seen w.headers) p ≡ true → AreAllBack w ms p.key
all_back w ms p T h = λ number. elim (none_or_some ((look w).headers.header number)) [
  | inl none ↦
      let t : IsTrailOfNone (trail number ms) = subst (λ (o : Option HeaderState). HasTrail o (trail number ms)) none (T.each number) in
      rw none t
  | inr (s, e) ↦
      let r = found_state number w s e in
      let is : (r.0).state ≡ s = r.2 in
      let f : is_for p.key s ≡ false = either (is_for p.key s)
      (λ t.
      let c = counted (is_for p.key) number w.headers r.0 r.1 (rw is t) in
      let z : count_headers (is_for p.key) w.headers ≡ 0 = eqb-true _ _ h in
      absurd (omega arith))
      (λ f. f) in
      is_other ((look w).headers.header number) s (IsTrailOfNone (trail number ms)) (λ x. is_for p.key x ≡ false) e f
]
  where
    is_other : (o : Option HeaderState) (s : HeaderState) (N : Type 0) (P : HeaderState → Type 0) → o ≡ Some s → P s → MatchOption o N P
    is_other o s N P e h = rw e h

both_at : (o : Option Port) (P Q : Port → Type 0) → MatchOption o ⊥ P → ((p : Port) → P p → Q p) → MatchOption o ⊥ (λ p. P p × Q p)
both_at None P Q h k = h
both_at (Some p) P Q h k = (h, k p h)

pub disabled_unmade : (w : World) (old : List Move) (a : Act) (r : Reply) (v : World) (number port : ℕ) (D : WasDue (effect w a r) v number (completions.Disable port))
    → Sound w → HaveTrails w old → Meets w a → Step w a r v → WasUnmade (effect w a r) v (old ++ moves w a r) number port D
disabled_unmade w old a r v number port D S T M s =
    let h = D.happens in
    let ms = old ++ moves w a r in
    let x = trails_after w old a r v S T M s in
    let before = times_trails D.earlier (effect w a r) D.before ms D.reached x.1 x.0 in
    both_at (port_of h.component port) (λ p. has_no_header (seen (D.before).headers) p ≡ true) (λ p. AreAllBack D.before ms p.key)
    (tells_unmade (seen (D.before).headers) h.component h.thing port h.due D.tells)
    (λ p u. all_back D.before ms p before u)
