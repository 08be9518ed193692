-- The parts stay in all acts but those that make, free, attach, claim and finish, and in the close-out.
use Rattle.std.proofs.Common.{◌≡◌, ℕ, zero, suc, List, [], ◌∷◌, map, set, Option, Some, None, option_map, slice_get, find, Bool, Ok, refl, sym, ◌∙◌, ap, subst, not}
use Rattle.std.proofs.lemmas.Option.{slice_get-map}
use Rattle.omx_types.specs.declared.handle.Handle.{Handle}
use Rattle.omx_types.specs.declared.kind.Kind.{Kind}
use Rattle.part_api.specs.declared.attached.Attached.{Attached}
use Rattle.il_machine.specs.declared.answer.Acted.TheVariants.{Did}
use Rattle.il_machine.specs.declared.answer.Granted.TheVariants as granted
use Rattle.il_machine.specs.declared.answer.Preempted.TheVariants as preempted
use Rattle.il_machine.specs.declared.answer.Pending.{Pending}
use Rattle.il_machine.specs.declared.port.Link.{Link}
use Rattle.il_machine.specs.declared.port.Port.{Port}
use Rattle.il_machine.specs.declared.port.PortKey.{PortKey}
use Rattle.il_machine.specs.declared.header.Spot.{Spot}
use Rattle.il_machine.specs.declared.header.Spot.TheVariants.{TodoBack}
use Rattle.il_machine.specs.World.{changed_at, Component, HeaderRecord, Stream, Work, World, number_of, place_of, port_of, stream_of, is_stream_of}
use Rattle.il_machine.specs.Headers.{seen, unchanged, cleared}
use Rattle.il_machine.specs.Look.{look}
use Rattle.il_machine.specs.Ports.{is_input_port}
use Rattle.il_machine.specs.Tunnels.{joined_to, parted}
use Rattle.il_machine.specs.Notes.{TakenEvent, TakenEmpty, TakenFilled, TookNote, first_taken, back_in}
use Rattle.il_machine.specs.Flow.{in_port, front_unmade, front_put, at_link, handed_back, returned, front_noticed, supplied_spot}
use Rattle.il_machine.specs.Due.{Thing, Transition, Flush, PortMode, WaitingMark, arrived, transition_happened, at_port, flush_happened, mode_happened, mark_happened, happened, Happens, HappenTimes, ClosesTo}
use Rattle.il_machine.specs.Units.{is_waiter, is_before, first_waiter, victim, with_changed, granted_units, preempted_units}
use Rattle.il_machine.specs.Claims.{ClaimedWork}
use Rattle.il_machine.specs.Parts.{terms_of}
use Rattle.il_machine.specs.Acts.{Act, Reply}
use Rattle.il_machine.specs.Acts as acts
use Rattle.il_machine.specs.Effect.{at_named, at_named_port, at_both, effect}
use Rattle.il_machine.specs.Run.{Step}
use Rattle.il_machine.specs.Sound.{Sound}
use Rattle.il_machine.specs.Whole.{PartSeen, HasParts}
use Rattle.machine_laws.proofs.Granting.{best_among, victim_there, changed_there}
use Rattle.machine_laws.proofs.Steps.{HandsIn}
use Rattle.history_laws.proofs.Outcome.{turn, Turn, Outcome, Nothing, Done}
use Rattle.history_laws.proofs.Steps.{comes_after}
use Rattle.stock_laws.specs.Parts.{KeepsPart}
use Rattle.stock_laws.proofs.Lists.{map_set}
use Rattle.stock_laws.proofs.Entries.{set_same}
use Rattle.stock_laws.proofs.Parts.{done_alike}
use Rattle.port_rules.proofs.Happenings.{arrived_part, mode_part}
use Rattle.graph_core.proofs.SameParts.{part_sent, part_run, part_value, part_unpopulated}
use Rattle.graph_core.proofs.Granting.{part_granted, part_preempted}

-- what of a component its part is tied to
pub record PartOf : Type 0 where
  pub number : ℕ
  pub kind : Kind
  pub file : Option Attached
  pub failed : Bool
  pub work : Option Work

abbrev pub part_of : Component → PartOf
part_of c = record { number = number_of c; kind = c.settings.kind; file = c.file; failed = c.part.failed; work = c.work }

part_same : (c d : Component) → KeepsPart c d → part_of d ≡ part_of c
part_same c d K i = record { number = K.number i; kind = K.kind i; file = K.file i; failed = K.failed i; work = K.work i }

-- the components have the parts that they had, and nothing went through them
pub record PartsStay (w v : World) : Type 0 where
  pub parts : map part_of v.components ≡ map part_of w.components
  pub streams : v.streams ≡ w.streams

pub stay_same : (w : World) → PartsStay w w
stay_same w = record { parts = refl; streams = refl }

pub stay_equal : (w v : World) → v ≡ w → PartsStay w v
stay_equal w v e = record { parts = ap (λ (x : World). map part_of x.components) e; streams = ap (λ (x : World). x.streams) e }

pub stay_on : (w m v : World) → PartsStay w m → PartsStay m v → PartsStay w v
stay_on w m v A B = record { parts = B.parts ∙ A.parts; streams = B.streams ∙ A.streams }

set_part : (cs : List Component) (i : ℕ) (c d : Component) → slice_get cs i ≡ Some c → KeepsPart c d → map part_of (set cs i d) ≡ map part_of cs
set_part cs i c d at K = map_set part_of cs i d ∙ rw (part_same c d K) (set_same (map part_of cs) i (part_of c) (slice_get-map part_of cs i ∙ ap (option_map part_of) at))

set_parts : (cs : List Component) (i j : ℕ) (c c' d d' : Component) → slice_get cs i ≡ Some c → slice_get cs j ≡ Some d → KeepsPart c c' → KeepsPart d d' → map part_of (set (set cs i c') j d') ≡ map part_of cs
set_parts cs i j c c' d d' at bt K L =
    map_set part_of (set cs i c') j d'
    ∙ (ap (λ (xs : List PartOf). set xs j (part_of d')) (set_part cs i c c' at K)
    ∙ rw (part_same d d' L) (set_same (map part_of cs) j (part_of d) (slice_get-map part_of cs j ∙ ap (option_map part_of) bt)))

stay_set : (w v : World) (i : ℕ) (c d : Component) → slice_get w.components i ≡ Some c → KeepsPart c d → v.components ≡ set w.components i d → v.streams ≡ w.streams → PartsStay w v
stay_set w v i c d at K cs ss = record { parts = ap (map part_of) cs ∙ set_part w.components i c d at K; streams = ss }

-- ---- what happens

at_port_stay : (o : Option Port) (change : Port → World → World) (w : World) → ((p : Port) → PartsStay w (change p w)) → PartsStay w (at_port o change w)
at_port_stay None change w k = stay_same w
at_port_stay (Some p) change w k = k p

transition_stay : (i : ℕ) (c : Component) (o : Option Pending) (w : World) → slice_get w.components i ≡ Some c → PartsStay w (transition_happened i c o w)
transition_stay i c None w at = stay_same w
transition_stay i c (Some p) w at = stay_set w _ i c (arrived w.waits p c) at (arrived_part w.waits p c) refl refl

happened_stay : (i : ℕ) (c : Component) (thing : Thing) (w : World) → slice_get w.components i ≡ Some c → PartsStay w (happened i c thing w)
happened_stay i c Transition w at = transition_stay i c c.pending w at
happened_stay i c (Flush port) w at = at_port_stay (port_of c port) (flush_happened i c) w (λ p. stay_set w _ i c _ at (record { number = refl; kind = refl; file = refl; failed = refl; work = refl }) refl refl)
happened_stay i c (PortMode port) w at = at_port_stay (port_of c port) (mode_happened i c) w (λ p. stay_set w _ i c _ at (mode_part c p p.state.mode) refl refl)
happened_stay i c (WaitingMark port) w at = at_port_stay (port_of c port) (mark_happened i c) w (λ p. stay_set w _ i c _ at (record { number = refl; kind = refl; file = refl; failed = refl; work = refl }) refl refl)

happens_stay : (w v : World) → Happens w v → PartsStay w v
happens_stay w v H = subst (PartsStay w) (sym H.after) (happened_stay H.place H.component H.thing w H.there)

times_stay : (n : ℕ) (w v : World) → HappenTimes n w v → PartsStay w v
times_stay zero w v e = stay_equal w v e
times_stay (suc n) w v (mid, before, last) = stay_on w mid v (times_stay n w mid before) (happens_stay mid v last)

pub closes_stay : (w v : World) → ClosesTo w v → PartsStay w v
closes_stay w v C = times_stay C.steps w v C.by_steps

-- ---- what acts do

changed_stay : {T : Type 0} (o : Option T) (w : World) (change : T → World) → ((x : T) → o ≡ Some x → PartsStay w (change x)) → PartsStay w (changed_at o w change)
changed_stay None w change k = stay_same w
changed_stay (Some x) w change k = k x refl

named_stay : (h : Handle) (w : World) (change : ℕ → Component → World) → ((i : ℕ) (c : Component) → slice_get w.components i ≡ Some c → PartsStay w (change i c)) → PartsStay w (at_named h w change)
named_stay h w change k = changed_stay (place_of h w.components) w _ (λ i e. changed_stay (slice_get w.components i) w _ (λ c at. k i c at))

port_stay : (h : Handle) (port : ℕ) (w : World) (change : ℕ → Component → Port → World) → ((i : ℕ) (c : Component) (p : Port) → slice_get w.components i ≡ Some c → PartsStay w (change i c p)) → PartsStay w (at_named_port h port w change)
port_stay h port w change k = named_stay h w _ (λ i c at. changed_stay (port_of c port) w _ (λ p e. k i c p at))

both_stay : (p q : Option Port) (w : World) (change : Port → Port → World) → ((a b : Port) → PartsStay w (change a b)) → PartsStay w (at_both p q w change)
both_stay p q w change k = changed_stay p w _ (λ a e. changed_stay q w _ (λ b f. k a b))

unmade_stay : (ns : List ℕ) (w : World) → PartsStay w (front_unmade ns w)
unmade_stay [] w = stay_same w
unmade_stay (n ∷ ns) w = record { parts = refl; streams = refl }

put_stay : (key : PortKey) (spot : Spot) (change : HeaderRecord → HeaderRecord) (ns : List ℕ) (w : World) → PartsStay w (front_put key spot change ns w)
put_stay key spot change [] w = stay_same w
put_stay key spot change (n ∷ ns) w = record { parts = refl; streams = refl }

over_stay : (p : Port) (o : Option Link) (w : World) → PartsStay w (at_link o (λ peer. front_put peer TodoBack unchanged ((seen w.headers).done p.key)) w)
over_stay p None w = stay_same w
over_stay p (Some link) w = put_stay link.peer TodoBack unchanged ((seen w.headers).done p.key) w

returned_stay : (key : PortKey) (input : Bool) (done todo : List ℕ) (w : World) → PartsStay w (returned key input done todo w)
returned_stay key input [] todo w = put_stay key (supplied_spot (not input)) cleared todo w
returned_stay key input (n ∷ ns) todo w = record { parts = refl; streams = refl }

noticed_stay : (i : ℕ) (c : Component) (p : Port) (todo : List ℕ) (w : World) → slice_get w.components i ≡ Some c → PartsStay w (front_noticed i c p todo w)
noticed_stay i c p [] w at = stay_same w
noticed_stay i c p (n ∷ ns) w at = stay_set w _ i c _ at (record { number = refl; kind = refl; file = refl; failed = refl; work = refl }) refl refl

back_stay : (i : ℕ) (c : Component) (p : Port) (o : Option Link) (w : World) → slice_get w.components i ≡ Some c → PartsStay w (handed_back i c p o w)
back_stay i c p None w at = noticed_stay i c p ((seen w.headers).todo p.key) w at
back_stay i c p (Some link) w at = returned_stay link.peer (is_input_port p) ((seen w.headers).done p.key) ((seen w.headers).todo p.key) w

granted_stay : (o : Option Component) (w : World) → Sound w → first_waiter w.components ≡ o → PartsStay w (changed_at o w (λ c. with_changed granted_units c w))
granted_stay None w S e = stay_same w
granted_stay (Some c) w S e =
    let A = best_among is_waiter is_before w.components c e in
    subst (PartsStay w) (sym (changed_there granted_units w A.place c S.rising A.there)) (stay_set w _ A.place c (granted_units c) A.there (part_granted c) refl refl)

preempted_stay : (o : Option Component) (w : World) → Sound w → victim w.components ≡ o → PartsStay w (changed_at o w (λ c. with_changed preempted_units c w))
preempted_stay None w S e = stay_same w
preempted_stay (Some c) w S e =
    let A = victim_there w c S e in
    subst (PartsStay w) (sym (changed_there preempted_units w A.place c S.rising A.there)) (stay_set w _ A.place c (preempted_units c) A.there (part_preempted c) refl refl)

-- the act makes and frees no component, and leaves files and works alone
abbrev pub LeavesParts : Act → Reply → Type 0
LeavesParts (acts.GetHandle name) (acts.Got (Ok h)) = ⊥
LeavesParts (acts.FreeHandle h) (acts.Removed (Ok file)) = ⊥
LeavesParts (acts.Attach h file) (acts.Plain (Ok done)) = ⊥
LeavesParts (acts.Claim h) (acts.Claimed (Ok (ClaimedWork work))) = ⊥
LeavesParts (acts.Finish done) acts.Finished = ⊥
LeavesParts a r = Unit {0}

module _ (w : World) (S : Sound w) where
  effect_stay : (a : Act) (r : Reply) → LeavesParts a r → PartsStay w (effect w a r)
  effect_stay (acts.GetHandle name) (acts.Got (Ok h)) l = absurd l
  effect_stay (acts.FreeHandle h) (acts.Removed (Ok file)) l = absurd l
  effect_stay (acts.Attach h file) (acts.Plain (Ok done)) l = absurd l
  effect_stay (acts.Claim h) (acts.Claimed (Ok (ClaimedWork work))) l = absurd l
  effect_stay (acts.Finish done) acts.Finished l = absurd l
  effect_stay (acts.SetParameter h key value) (acts.Plain (Ok done)) l = named_stay h w _ (λ i c at. stay_set w _ i c _ at (part_value key value c) refl refl)
  effect_stay (acts.SetConfig h key value) (acts.Plain (Ok done)) l = named_stay h w _ (λ i c at. stay_set w _ i c _ at (part_value key value c) refl refl)
  effect_stay (acts.SetupTunnel output input) (acts.Joined (Ok supplier)) l =
      named_stay output.handle w _ (λ i c at. named_stay input.handle w _ (λ j d bt. both_stay (port_of c output.index) (port_of d input.index) w _ (λ p q. record {
        parts = set_parts w.components i j c (joined_to q supplier p c) d (joined_to p supplier q d) at bt (record { number = refl; kind = refl; file = refl; failed = refl; work = refl }) (record { number = refl; kind = refl; file = refl; failed = refl; work = refl });
        streams = refl;
      })))
  effect_stay (acts.DropTunnel output input) (acts.Plain (Ok done)) l =
      named_stay output.handle w _ (λ i c at. named_stay input.handle w _ (λ j d bt. both_stay (port_of c output.index) (port_of d input.index) w _ (λ p q. record {
        parts = set_parts w.components i j c (parted p c) d (parted q d) at bt (record { number = refl; kind = refl; file = refl; failed = refl; work = refl }) (record { number = refl; kind = refl; file = refl; failed = refl; work = refl });
        streams = refl;
      })))
  effect_stay (acts.SendCommand h command) (acts.Plain (Ok done)) l = named_stay h w _ (λ i c at. stay_set w _ i c _ at (part_sent command c) refl refl)
  effect_stay (acts.RunCommand h) (acts.Acted (Ok Did)) l = named_stay h w _ (λ i c at. stay_set w _ i c _ at (part_run (look w) c.commands c) refl refl)
  effect_stay (acts.AllocateBuffer h port) (acts.Allocated (Ok header)) l = port_stay h port w _ (λ i c p at. record { parts = refl; streams = refl })
  effect_stay (acts.UseBuffer h port bytes) (acts.Used (Ok header)) l = port_stay h port w _ (λ i c p at. record { parts = refl; streams = refl })
  effect_stay (acts.FreeBuffer h port header) (acts.Freed (Ok memory)) l = port_stay h port w _ (λ i c p at. stay_set w _ i c _ at (part_unpopulated p c) refl refl)
  effect_stay (acts.EmptyThisBuffer h port header) (acts.Plain (Ok done)) l = port_stay h port w _ (λ i c p at. record { parts = refl; streams = refl })
  effect_stay (acts.FillThisBuffer h port header) (acts.Plain (Ok done)) l = port_stay h port w _ (λ i c p at. record { parts = refl; streams = refl })
  effect_stay (acts.TakeNote h) (acts.Took (Ok (TookNote (TakenEvent event)))) l = named_stay h w _ (λ i c at. stay_set w _ i c (first_taken c) at (record { number = refl; kind = refl; file = refl; failed = refl; work = refl }) refl refl)
  effect_stay (acts.TakeNote h) (acts.Took (Ok (TookNote (TakenEmpty header)))) l = named_stay h w _ (λ i c at. stay_set w _ i c (first_taken c) at (record { number = refl; kind = refl; file = refl; failed = refl; work = refl }) refl refl)
  effect_stay (acts.TakeNote h) (acts.Took (Ok (TookNote (TakenFilled header)))) l = named_stay h w _ (λ i c at. stay_set w _ i c (first_taken c) at (record { number = refl; kind = refl; file = refl; failed = refl; work = refl }) refl refl)
  effect_stay (acts.EndNote h progress) acts.Ended l = named_stay h w _ (λ i c at. stay_set w _ i c (back_in c) at (record { number = refl; kind = refl; file = refl; failed = refl; work = refl }) refl refl)
  effect_stay (acts.Supply h port) (acts.Supplied (Ok Did)) l = port_stay h port w _ (λ i c p at. record { parts = refl; streams = refl })
  effect_stay (acts.Release h port) (acts.Acted (Ok Did)) l = port_stay h port w _ (λ i c p at. unmade_stay (in_port (seen w.headers) p) w)
  effect_stay (acts.HandOver h port) (acts.Acted (Ok Did)) l = port_stay h port w _ (λ i c p at. over_stay p p.state.link w)
  effect_stay (acts.HandBack h port) (acts.Acted (Ok Did)) l = port_stay h port w _ (λ i c p at. back_stay i c p p.state.link w at)
  effect_stay acts.Grant (acts.Granted (granted.Granted h)) l = granted_stay (first_waiter w.components) w S refl
  effect_stay acts.Preempt (acts.Preempted (preempted.Victim h)) l = preempted_stay (victim w.components) w S refl
  effect_stay _ _ l = stay_same w

  pub outcome_stay : (a : Act) (r : Reply) (v : World) → LeavesParts a r → Outcome w (turn w a r) v → PartsStay w v
  outcome_stay a r v l (Nothing e m) = stay_equal w v e
  outcome_stay a r v l (Done C F) = stay_on w (effect w a r) v (effect_stay a r l) (closes_stay (effect w a r) v C)

  -- from before the close-out on, whatever the act
  closing_of : (a : Act) (r : Reply) (v : World) → Outcome w (turn w a r) v → PartsStay (effect w a r) v
  closing_of a r v (Nothing e m) = stay_equal (effect w a r) v (e ∙ sym (ap (λ (t : Turn). t.after) m))
  closing_of a r v (Done C F) = closes_stay (effect w a r) v C

  pub after_effect : (a : Act) (r : Reply) (v : World) → HandsIn w a → Step w a r v → PartsStay (effect w a r) v
  after_effect a r v M h = closing_of a r v (comes_after w a r v S M h)

  pub step_stays : (a : Act) (r : Reply) (v : World) → HandsIn w a → LeavesParts a r → Step w a r v → PartsStay w v
  step_stays a r v M l h = outcome_stay a r v l (comes_after w a r v S M h)

-- ---- the kept parts

was_there : (o : Option Component) (p : PartOf) → option_map part_of o ≡ Some p → (c : Component) × (o ≡ Some c) × (part_of c ≡ p)
was_there None p e = absurd cc
was_there (Some c) p e = let q : part_of c ≡ p = cc in (c, refl, q)

-- where the parts stayed, each component of now was there with its part
pub stayed : (cs ds : List Component) (i : ℕ) (d : Component) → map part_of ds ≡ map part_of cs → slice_get ds i ≡ Some d → (c : Component) × (slice_get cs i ≡ Some c) × (part_of c ≡ part_of d)
stayed cs ds i d e at =
    was_there (slice_get cs i) (part_of d)
    (sym (slice_get-map part_of cs i) ∙ (ap (λ (xs : List PartOf). slice_get xs i) (sym e) ∙ (slice_get-map part_of ds i ∙ ap (option_map part_of) at)))

pub has_parts_stay : (parts : List (Option PartSeen)) (w v : World) → PartsStay w v → HasParts parts w → HasParts parts v
has_parts_stay parts w v K P i d s at out st =
    let x = stayed w.components v.components i d K.parts at in
    let c = x.0 in
    let q = x.2 in
    let y = P i c s x.1 (ap (λ (p : PartOf). p.work) q ∙ out)
    (ap (λ (ss : List Stream). find (is_stream_of (number_of c)) ss) (sym K.streams) ∙ (ap (λ (n : ℕ). stream_of n v) (ap (λ (p : PartOf). p.number) q) ∙ st)) in
    (y.0, y.1, done_alike (terms_of c) (terms_of d) c.part.failed d.part.failed s y.0 (sym (ap (λ (p : PartOf). p.kind) q)) (sym (ap (λ (p : PartOf). p.file) q)) (sym (ap (λ (p : PartOf). p.failed) q)) y.2)
