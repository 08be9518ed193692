-- Where each header made for a port has come back: at a settled port, so where Idle is reached from Executing or Pause.
use Rattle.std.proofs.Common.{◌≡◌, ◌≢◌, ◌⊎◌, inl, inr, ℕ, zero, suc, Bool, true, false, ◌&&◌, List, [], ◌∷◌, ◌++◌, Option, Some, None, is_none, All, MatchOption, refl, sym, ◌∙◌, ap, subst, eqb-true, arith}
use Rattle.std.specs.List.{list_all}
use Rattle.std.proofs.lemmas.Bool.{and_parts}
use Rattle.std.proofs.lemmas.List.Elements.{All-nil, All-cons}
use Rattle.omx_types.specs.declared.state.State.{State}
use Rattle.omx_types.specs.declared.state.State.TheVariants.{Invalid, Loaded, Idle, Executing, Pause, WaitForResources}
use Rattle.il_machine.specs.declared.answer.Pending.{Pending}
use Rattle.il_machine.specs.declared.answer.Cause.TheVariants as causes
use Rattle.il_machine.specs.declared.port.Port.{Port}
use Rattle.il_machine.specs.declared.header.HeaderState.{HeaderState}
use Rattle.il_machine.specs.States.{is_running, is_down}
use Rattle.il_machine.specs.World.{component_numbered, Component, HeaderRecord, World, number_of, ports_of}
use Rattle.il_machine.specs.Headers.{Seen, seen, find_header, is_for, is_away, weight, count_headers, Once}
use Rattle.il_machine.specs.Ports.{settled}
use Rattle.il_machine.specs.Acts.{Act, Reply}
use Rattle.il_machine.specs.Run.{Step, Meets}
use Rattle.il_machine.specs.Due.{Thing, Transition, Flush, PortMode, WaitingMark, is_due_to, each_port, due_in, Happens, HappenTimes}
use Rattle.il_machine.specs.Effect.{effect}
use Rattle.il_machine.specs.Trails.{Move, moves, trail, returns, hand_overs, is_handed_over, HaveTrails, IsTrailOf, HasTrail}
use Rattle.il_machine.specs.Sound.{Sound}
use Rattle.machine_laws.proofs.Finding.{either}
use Rattle.machine_laws.proofs.Keys.{at_there}
use Rattle.machine_laws.proofs.Ties.{counted}
use Rattle.history_laws.specs.Settled.{IsReturned, TakesToIdle, ReachesIdle}
use Rattle.history_laws.proofs.Named.{named, is_named, named_number, named_set}
use Rattle.history_laws.proofs.Happening.{Passes, IsAfter, target_due}
use Rattle.history_laws.proofs.Closing.{happening_of}
use Rattle.history_laws.proofs.Queues.{closing_advances}
use Rattle.history_laws.proofs.Quiet.{KeepsState}
use Rattle.history_laws.proofs.Trails.{home_unless_away}
use Rattle.history_laws.proofs.Homes.{found_state}
use Rattle.history_laws.proofs.Outcome.{Turn, turn, Outcome, Nothing, Done}
use Rattle.history_laws.proofs.Steps.{step_comes}
use Rattle.history_laws.proofs.QueueLaw.{was_there}
use Rattle.history_laws.proofs.TrailLaw.{times_trails, effect_trails}

-- ---- a settled port

not_away : (w : World) (p : Port) (n : ℕ) (r : HeaderRecord) → settled (seen w.headers) p ≡ true → find_header n w.headers ≡ Some r → is_for p.key r.state ≡ true → is_away r.state ≡ false
not_away w p n r h f k = either (is_away r.state)
    (λ t.
    let test : HeaderState → Bool = λ s. is_for p.key s && is_away s in
    let c = counted test n w.headers r f (rw (k, t) refl) in
    let z : count_headers test w.headers ≡ 0 = eqb-true _ _ h in
    absurd (omega arith))
    (λ g. g)

trail_back : (s : HeaderState) (ms : List Move) → IsTrailOf s ms → is_away s ≡ false → returns s.home ms ≡ hand_overs s.home ms
trail_back s ms T a =
    let w : weight (is_handed_over s) ≡ 0 = ap weight (home_unless_away s.home s.owner a) in
    let r = T.returned in
    omega arith

pub settled_returns : (w : World) (ms : List Move) (p : Port) → HaveTrails w ms → settled (seen w.headers) p ≡ true → IsReturned w ms p
settled_returns w ms p T h = λ number s e k.
    let r = found_state number w s e in
    let is : (r.0).state ≡ s = r.2 in
    let a = not_away w p number r.0 h r.1 (rw is k) in
    let t : IsTrailOf s (trail number ms) = subst (λ (o : Option HeaderState). HasTrail o (trail number ms)) e (T.each number) in
    trail_back s (trail number ms) t (rw is at a)

all_return : (w : World) (ms : List Move) (ps : List Port) → HaveTrails w ms → list_all (settled (seen w.headers)) ps ≡ true → All (IsReturned w ms) ps
all_return w ms [] T h = All-nil (IsReturned w ms)
all_return w ms (p ∷ ps) T h =
    let x = and_parts (settled (seen w.headers) p) (list_all (settled (seen w.headers)) ps) h in
    All-cons (IsReturned w ms) p ps (settled_returns w ms p T x.0) (all_return w ms ps T x.1)

-- ---- on the way to Idle

idle_or_not : (s : State) → (s ≡ Idle) ⊎ (s ≢ Idle)
idle_or_not Idle = inl refl
idle_or_not Invalid = inr (λ e. cc)
idle_or_not Loaded = inr (λ e. cc)
idle_or_not Executing = inr (λ e. cc)
idle_or_not Pause = inr (λ e. cc)
idle_or_not WaitForResources = inr (λ e. cc)

-- neither Idle nor on the way to it
record IsElsewhere (c : Component) : Type 0 where
  state : c.state ≢ Idle
  target : (p : Pending) → c.pending ≡ Some p → p.target ≢ Idle

-- Executing or Pause, or elsewhere
abbrev IsAway : Component → Type 0
IsAway c = (is_running c.state ≡ true) ⊎ IsElsewhere c

-- the transition to Idle from Executing or Pause was due
record IsReaching (headers : Seen) (c : Component) (thing : Thing) : Type 0 where
  arrives : thing ≡ Transition
  to_idle : MatchOption c.pending ⊥ (λ p. p.target ≡ Idle)
  running : is_running c.state ≡ true
  settles : each_port c (settled headers) ≡ true

not_down : (s : State) → is_running s ≡ true → is_down s ≡ false
not_down Executing h = refl
not_down Pause h = refl
not_down Idle h = absurd cc
not_down Invalid h = absurd cc
not_down Loaded h = absurd cc
not_down WaitForResources h = absurd cc

settled_due : (headers : Seen) (c : Component) (target : State) → target ≡ Idle → is_running c.state ≡ true → is_due_to headers c target ≡ true → each_port c (settled headers) ≡ true
settled_due headers c target t r d =
    let e : is_due_to headers c Idle ≡ true = rw t at d in
    let f : (each_port c (settled headers) && (is_none c.work && true)) ≡ true = rw (not_down c.state r) at e in
    (and_parts (each_port c (settled headers)) (is_none c.work && true) f).0

other_target : (pending : Option Pending) → IsAfter pending → (p : Pending) → pending ≡ Some p → p.target ≢ Idle
other_target pending (inl none) p e = let a : None ≡ Some p = sym none ∙ e in absurd cc
other_target pending (inr loss) p e =
    let a : Some p ≡ Some (record { target = Loaded; cause = causes.Loss }) = sym e ∙ loss in
    let is : p ≡ record { target = Loaded; cause = causes.Loss } = cc in
    λ k. let b : Loaded ≡ Idle = sym (ap (λ (x : Pending). x.target) is) ∙ k in cc

same_away : (c d : Component) → d.state ≡ c.state → d.pending ≡ c.pending → IsAway c → IsAway d
same_away c d s p (inl r) = inl (rw s r)
same_away c d s p (inr e) = inr (record { state = rw s e.state; target = λ q f. e.target q (sym p ∙ f) })

arrives_away : (headers : Seen) (c d : Component) (p q : Pending) → c.pending ≡ Some q → is_due_to headers c q.target ≡ true → c.pending ≡ Some p → d.state ≡ p.target → IsAfter d.pending → IsAway c
    → IsAway d ⊎ IsReaching headers c Transition
arrives_away headers c d p q f due e s after away = elim (idle_or_not p.target) [
  | inr other ↦ inl (inr (record { state = rw s other; target = other_target d.pending after }))
  | inl idle ↦
      let same : Some q ≡ Some p = sym f ∙ e in
      let is : q ≡ p = cc in
      let t : q.target ≡ Idle = ap (λ (x : Pending). x.target) is ∙ idle in
      elim away [
        | inl r ↦ inr (record { arrives = refl; to_idle = rw e idle; running = r; settles = settled_due headers c q.target t r due })
        | inr x ↦ absurd (x.target p e idle)
      ]
]

passed : (headers : Seen) (c d : Component) (thing : Thing) → due_in headers c ≡ Some thing → Passes c thing d → IsAway c → IsAway d ⊎ IsReaching headers c thing
passed headers c d Transition due P away =
    let q = target_due headers c due in
    arrives_away headers c d P.0 q.0 q.1 q.2 P.1 P.2 P.3 away
passed headers c d (Flush port) due P away = inl (same_away c d P.0 P.1 away)
passed headers c d (PortMode port) due P away = inl (same_away c d P.0 P.1 away)
passed headers c d (WaitingMark port) due P away = inl (same_away c d P.0 P.1 away)

-- where a happening takes a component to Idle, each header of its ports has come back
pub idle_returns : (w v : World) (ms : List Move) (h : Happens w v) → HaveTrails w ms → TakesToIdle w v h → All (IsReturned w ms) (ports_of h.component)
idle_returns w v ms h T K =
    let due : due_in (seen w.headers) h.component ≡ Some Transition = h.due ∙ ap (λ (x : Thing). Some x) K.arrives in
    let q = target_due (seen w.headers) h.component due in
    let idle : (q.0).target ≡ Idle = at_there (h.component).pending (λ p. p.target ≡ Idle) q.0 q.1 K.to_idle in
    all_return w ms (ports_of h.component) T (settled_due (seen w.headers) h.component (q.0).target idle K.running q.2)

-- ---- the close-out

later_idle : (w m v : World) (ms : List Move) (number : ℕ) → ReachesIdle w m ms number → Happens m v → ReachesIdle w v ms number
later_idle w m v ms number R h = record {
  before = R.before;
  after = R.after;
  earlier = R.earlier;
  later = suc R.later;
  reached = R.reached;
  happens = R.happens;
  goes_on = (m, R.goes_on, h);
  whose = R.whose;
  takes = R.takes;
  returned = R.returned;
}

reaches_now : (n : ℕ) (w m v : World) (ms : List Move) (number : ℕ) → HappenTimes n w m → HaveTrails m ms → (h : Happens m v) → number_of h.component ≡ number → IsReaching (seen m.headers) h.component h.thing → ReachesIdle w v ms number
reaches_now n w m v ms number before T h whose R = record {
  before = m;
  after = v;
  earlier = n;
  later = 0;
  reached = before;
  happens = h;
  goes_on = refl;
  whose = whose;
  takes = record { arrives = R.arrives; to_idle = R.to_idle; running = R.running };
  returned = all_return m ms (ports_of h.component) T R.settles;
}

one_more : (n : ℕ) (w m v : World) (ms : List Move) (number : ℕ) (e d : Component) → HappenTimes n w m → HaveTrails m ms → Happens m v → named number m.components ≡ Some e → named number v.components ≡ Some d → IsAway e
    → IsAway d ⊎ ReachesIdle w v ms number
one_more n w m v ms number e d before T h was is away =
    let H = happening_of m v h in
    elim (named_set number h.place m.components h.component H.component e h.there (H.grows).number was) [
      | inr same ↦
          let a : named number v.components ≡ Some e = ap (named number) H.components ∙ same in
          let b : Some e ≡ Some d = sym a ∙ is in
          let c : e ≡ d = cc in
          inl (subst IsAway c away)
      | inl own ↦
          let a : named number v.components ≡ Some H.component = ap (named number) H.components ∙ own.1 in
          let b : Some H.component ≡ Some d = sym a ∙ is in
          let c : H.component ≡ d = cc in
          let whose : number_of h.component ≡ number = ap number_of (sym own.0) ∙ named_number number m.components e was in
          elim (passed (seen m.headers) h.component H.component h.thing h.due H.passes (subst IsAway own.0 away)) [
            | inl x ↦ inl (subst IsAway c x)
            | inr x ↦ inr (reaches_now n w m v ms number before T h whose x)
          ]
    ]

closing_idle : (n : ℕ) (w v : World) (ms : List Move) (number : ℕ) (c d : Component) → HappenTimes n w v → Once w.headers → HaveTrails w ms → named number w.components ≡ Some c → IsAway c → named number v.components ≡ Some d
    → IsAway d ⊎ ReachesIdle w v ms number
closing_idle zero w v ms number c d e o T was away is =
    let a : named number w.components ≡ Some d = rw e at is in
    let b : Some c ≡ Some d = sym was ∙ a in
    let f : c ≡ d = cc in
    inl (subst IsAway f away)
closing_idle (suc n) w v ms number c d (m, before, last) o T was away is =
    let A = closing_advances n number w m c before was in
    let t = times_trails n w m ms before o T in
    elim (closing_idle n w m ms number c A.component before o T was away A.there) [
      | inl x ↦ one_more n w m v ms number A.component d before t last A.there is x
      | inr R ↦ inr (later_idle w m v ms number R last)
    ]

-- ---- the step

kept_away : (c d : Component) → is_running c.state ≡ true → KeepsState c d → IsAway d
kept_away c d r (inl same) = inl (rw same r)
kept_away c d r (inr gone) = inr (record {
  state = λ e. let a : Invalid ≡ Idle = sym gone.0 ∙ e in cc;
  target = λ p e. let a : None ≡ Some p = sym gone.1 ∙ e in absurd cc;
})

never_idle : (d : Component) → d.state ≡ Idle → IsAway d → ⊥
never_idle d e (inl r) = let a : is_running Idle ≡ true = rw e at r in cc
never_idle d e (inr x) = x.state e

outcome_idle : (w v : World) (t : Turn) (old : List Move) (number : ℕ) (c d : Component) → Sound w → HaveTrails w old → Outcome w t v → named number w.components ≡ Some c → is_running c.state ≡ true → named number v.components ≡ Some d → d.state ≡ Idle
    → ReachesIdle t.after v (old ++ t.moves) number
outcome_idle w v t old number c d S T (Nothing e m) was r is idle =
    let a : named number w.components ≡ Some d = rw e at is in
    let b : Some c ≡ Some d = sym was ∙ a in
    let f : c ≡ d = cc in
    absurd (never_idle d idle (inl (rw (← f) r)))
outcome_idle w v t old number c d S T (Done C E) was r is idle =
    let x = effect_trails w t.after old t.moves t.back S T E in
    let m = was_there C.steps number t.after v d C.by_steps is in
    let k = ((E.silent).quiet number c m.0 was m.1).1 in
    elim (closing_idle C.steps t.after v (old ++ t.moves) number m.0 d C.by_steps x.1 x.0 m.1 (kept_away c m.0 r k) is) [
      | inl away ↦ absurd (never_idle d idle away)
      | inr R ↦ R
    ]

pub steps_reach_idle : (w : World) (old : List Move) (a : Act) (r : Reply) (v : World) (number : ℕ) (c d : Component) → Sound w → HaveTrails w old → Meets w a → Step w a r v
    → component_numbered number w ≡ Some c → is_running c.state ≡ true → component_numbered number v ≡ Some d → d.state ≡ Idle → ReachesIdle (effect w a r) v (old ++ moves w a r) number
steps_reach_idle w old a r v number c d S T M h was run is idle =
    outcome_idle w v (turn w a r) old number c d S T (step_comes w a r v S M h) (sym (is_named number w) ∙ was) run (sym (is_named number v) ∙ is) idle
