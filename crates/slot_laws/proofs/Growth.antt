-- What each act but an attach leaves: streams whose files tell what they give, and at least as many components numbered.
use Rattle.std.proofs.Common.{◌≡◌, ℕ, ◌≤◌, ◌<◌, zero, suc, Bool, true, not, le_refl, arith, List, [], ◌∷◌, ◌++◌, filter, find, map, slice_get, Option, Some, None, Ok, refl, sym, ◌∙◌, ap, subst, if◌then◌else◌}
use Rattle.std.specs.Prelude.{IsSome, MatchOption}
use Rattle.omx_types.specs.declared.handle.Handle.{Handle}
use Rattle.omx_types.specs.declared.kind.Kind.{Kind}
use Rattle.il_machine.specs.declared.answer.Acted.TheVariants.{Did}
use Rattle.il_machine.specs.declared.answer.Granted.TheVariants as granted
use Rattle.il_machine.specs.declared.answer.Pending.{Pending}
use Rattle.il_machine.specs.declared.answer.Preempted.TheVariants as preempted
use Rattle.il_machine.specs.declared.header.Spot.{Spot}
use Rattle.il_machine.specs.declared.header.Spot.TheVariants.{TodoBack}
use Rattle.il_machine.specs.declared.port.Link.{Link}
use Rattle.il_machine.specs.declared.port.Port.{Port}
use Rattle.il_machine.specs.declared.port.PortKey.{PortKey}
use Rattle.omx_types.specs.declared.error.OmxError.{OmxError}
use Rattle.il_machine.specs.Answers.{AnswersOrMemory}
use Rattle.il_machine.specs.Look.{look}
use Rattle.il_machine.specs.Acts.{Act, Reply}
use Rattle.il_machine.specs.Acts as acts
use Rattle.il_machine.specs.Claims.{ClaimedWork}
use Rattle.il_machine.specs.Components.{GetHandle, get_handle_refusal, is_vacant, with_new_component, without_component}
use Rattle.il_machine.specs.Due.{ClosesTo, Flush, HappenTimes, PortMode, Thing, Transition, WaitingMark, at_port, flush_happened, happened, mark_happened, mode_happened, transition_happened}
use Rattle.il_machine.specs.Effect.{at_both, at_named, at_named_port, effect}
use Rattle.il_machine.specs.Finishing.{finished, finished_by, gone_through, with_landed}
use Rattle.il_machine.specs.Flow.{at_link, front_noticed, front_put, front_unmade, handed_back, in_port, returned, supplied_spot}
use Rattle.il_machine.specs.Headers.{cleared, seen, unchanged}
use Rattle.il_machine.specs.Kinds.{kind_of}
use Rattle.il_machine.specs.Notes.{TakenEmpty, TakenEvent, TakenFilled, TookNote}
use Rattle.il_machine.specs.Ports.{is_input_port}
use Rattle.il_machine.specs.Run.{Meets, Step}
use Rattle.il_machine.specs.Sound.{Sound}
use Rattle.il_machine.specs.Stepping.{WorkDone}
use Rattle.il_machine.specs.Units.{first_waiter, granted_units, preempted_units, victim, with_changed}
use Rattle.il_machine.specs.World.{Component, HeaderRecord, Stream, Work, World, changed_at, is_stream_of, number_of, place_numbered, place_of, port_of, stream_of}
use Rattle.machine_laws.proofs.Finding.{either}
use Rattle.history_laws.proofs.Outcome.{Done, Nothing, Outcome, turn}
use Rattle.history_laws.proofs.Steps.{step_comes}

-- it brings no file
abbrev pub BringsNoFile : Act → Type 0
BringsNoFile (acts.Attach h file) = ⊥
BringsNoFile other = Unit {0}

-- each file tells what it gives
abbrev pub AreTold : List Stream → Type 0
AreTold [] = Unit {0}
AreTold (s ∷ streams) = IsSome s.known × AreTold streams

pub record Grows (w v : World) : Type 0 where
  pub told : AreTold w.streams → AreTold v.streams
  pub more : w.numbered ≤ v.numbered

stays : (w v : World) → v.streams ≡ w.streams → v.numbered ≡ w.numbered → Grows w v
stays w v same number = record { told = λ t. subst AreTold (sym same) t; more = omega (arith, number) }

and_then : (u v w : World) → Grows u v → Grows v w → Grows u w
and_then u v w a b = record { told = λ t. b.told (a.told t); more = omega (arith, a.more, b.more) }

-- ---- streams

told_append : (xs ys : List Stream) → AreTold xs → AreTold ys → AreTold (xs ++ ys)
told_append [] ys a b = b
told_append (x ∷ xs) ys (this, rest) b = (this, told_append xs ys rest b)

told_filter : (test : Stream → Bool) (xs : List Stream) → AreTold xs → AreTold (filter test xs)
told_filter test [] a = a
told_filter test (x ∷ xs) (this, rest) =
    either (test x) (λ t. rw t (this, told_filter test xs rest)) (λ e. rw e (told_filter test xs rest))

told_map : (change : Stream → Stream) (xs : List Stream) → ((s : Stream) → (change s).known ≡ s.known) → AreTold xs → AreTold (map change xs)
told_map change [] same a = a
told_map change (x ∷ xs) same (this, rest) = (subst (λ (o : Option (List ℕ)). IsSome o) (sym (same x)) this, told_map change xs same rest)

pub told_at : (number : ℕ) (xs : List Stream) (s : Stream) → AreTold xs → find (is_stream_of number) xs ≡ Some s → IsSome s.known
told_at number [] s a e = absurd cc
told_at number (x ∷ xs) s (this, rest) e = either (is_stream_of number x)
    (λ t.
    let f : find (is_stream_of number) (x ∷ xs) ≡ Some x = rw t refl in
    let g : Some x ≡ Some s = sym f ∙ e in
    let is : x ≡ s = cc in subst (λ (y : Stream). IsSome y.known) is this)
    (λ n. let f : find (is_stream_of number) (x ∷ xs) ≡ find (is_stream_of number) xs = rw n refl in told_at number xs s rest (sym f ∙ e))

-- ---- what happens

at_port_stays : (o : Option Port) (change : Port → World → World) (w : World) → ((p : Port) → Grows w (change p w)) → Grows w (at_port o change w)
at_port_stays None change w k = stays w w refl refl
at_port_stays (Some p) change w k = k p

transition_stays : (i : ℕ) (c : Component) (o : Option Pending) (w : World) → Grows w (transition_happened i c o w)
transition_stays i c None w = stays w w refl refl
transition_stays i c (Some p) w = stays w _ refl refl

happened_stays : (i : ℕ) (c : Component) (thing : Thing) (w : World) → Grows w (happened i c thing w)
happened_stays i c Transition w = transition_stays i c c.pending w
happened_stays i c (Flush port) w = at_port_stays (port_of c port) (flush_happened i c) w (λ p. stays w _ refl refl)
happened_stays i c (PortMode port) w = at_port_stays (port_of c port) (mode_happened i c) w (λ p. stays w _ refl refl)
happened_stays i c (WaitingMark port) w = at_port_stays (port_of c port) (mark_happened i c) w (λ p. stays w _ refl refl)

times_stay : (n : ℕ) (w v : World) → HappenTimes n w v → Grows w v
times_stay zero w v e = stays w v (ap (λ (x : World). x.streams) e) (ap (λ (x : World). x.numbered) e)
times_stay (suc n) w v (mid, before, last) =
    and_then w mid v (times_stay n w mid before) (subst (Grows mid) (sym last.after) (happened_stays last.place last.component last.thing mid))

closing_stays : (w v : World) → ClosesTo w v → Grows w v
closing_stays w v C = times_stay C.steps w v C.by_steps

-- ---- what an act makes of a world

at_there : {T : Type 0} (o : Option T) (w : World) (change : T → World) → ((x : T) → Grows w (change x)) → Grows w (changed_at o w change)
at_there None w change k = stays w w refl refl
at_there (Some x) w change k = k x

on_named : (h : Handle) (w : World) (change : ℕ → Component → World) → ((i : ℕ) (c : Component) → Grows w (change i c)) → Grows w (at_named h w change)
on_named h w change k = at_there (place_of h w.components) w _ (λ i. at_there _ w (λ c. change i c) (λ c. k i c))

on_port : (h : Handle) (port : ℕ) (w : World) (change : ℕ → Component → Port → World) → ((i : ℕ) (c : Component) (p : Port) → Grows w (change i c p)) → Grows w (at_named_port h port w change)
on_port h port w change k = on_named h w _ (λ i c. at_there (port_of c port) w (λ p. change i c p) (λ p. k i c p))

on_both : (p q : Option Port) (w : World) (change : Port → Port → World) → ((a b : Port) → Grows w (change a b)) → Grows w (at_both p q w change)
on_both p q w change k = at_there p w _ (λ a. at_there q w (λ b. change a b) (λ b. k a b))

unmade_stays : (ns : List ℕ) (w : World) → Grows w (front_unmade ns w)
unmade_stays [] w = stays w w refl refl
unmade_stays (n ∷ ns) w = stays w _ refl refl

put_stays : (key : PortKey) (spot : Spot) (change : HeaderRecord → HeaderRecord) (ns : List ℕ) (w : World) → Grows w (front_put key spot change ns w)
put_stays key spot change [] w = stays w w refl refl
put_stays key spot change (n ∷ ns) w = stays w _ refl refl

link_stays : (o : Option Link) (change : PortKey → World → World) (w : World) → ((k : PortKey) → Grows w (change k w)) → Grows w (at_link o change w)
link_stays None change w k = stays w w refl refl
link_stays (Some link) change w k = k link.peer

returned_stays : (key : PortKey) (input : Bool) (done todo : List ℕ) (w : World) → Grows w (returned key input done todo w)
returned_stays key input [] todo w = put_stays key (supplied_spot (not input)) cleared todo w
returned_stays key input (n ∷ ns) todo w = stays w _ refl refl

noticed_stays : (i : ℕ) (c : Component) (p : Port) (todo : List ℕ) (w : World) → Grows w (front_noticed i c p todo w)
noticed_stays i c p [] w = stays w w refl refl
noticed_stays i c p (n ∷ ns) w = stays w _ refl refl

back_stays : (i : ℕ) (c : Component) (p : Port) (o : Option Link) (w : World) → Grows w (handed_back i c p o w)
back_stays i c p None w = noticed_stays i c p ((seen w.headers).todo p.key) w
back_stays i c p (Some link) w = returned_stays link.peer (is_input_port p) ((seen w.headers).done p.key) ((seen w.headers).todo p.key) w

changed_stays : (change : Component → Component) (o : Option Component) (w : World) → Grows w (changed_at o w (λ c. with_changed change c w))
changed_stays change o w = at_there o w _ (λ c. at_there (place_numbered (number_of c) w.components) w _ (λ i. stays w _ refl refl))

made_grows : (h : Handle) (o : Option Kind) (w : World) → Grows w (changed_at o w (λ kind. with_new_component h kind w))
made_grows h None w = stays w w refl refl
made_grows h (Some kind) w = record { told = λ t. told_append w.streams _ t (refl, tt); more = omega arith }

freed_grows : (i : ℕ) (c : Component) (w : World) → Grows w (without_component i c w)
freed_grows i c w = record { told = told_filter (λ s. not (is_stream_of (number_of c) s)) w.streams; more = le_refl w.numbered }

landed_grows : (i : ℕ) (c : Component) (done : WorkDone) (s : Stream) (w : World) → Grows w (with_landed i c done s w)
landed_grows i c done s w = record {
  told = told_map (λ x. if is_stream_of (number_of c) x then gone_through done x else x) w.streams (λ x. either (is_stream_of (number_of c) x) (λ t. rw t refl) (λ e. rw e refl));
  more = le_refl w.numbered;
}

finished_grows : (i : ℕ) (c : Component) (done : WorkDone) (o : Option Work) (w : World) → Grows w (finished_by i c done o w)
finished_grows i c done None w = stays w w refl refl
finished_grows i c done (Some work) w = either work.announces
    (λ t. rw t (stays w _ refl refl))
    (λ f. rw f (at_there (stream_of (number_of c) w) w (λ s. with_landed i c done s w) (λ s. landed_grows i c done s w)))

effect_grows : (w : World) (a : Act) (r : Reply) → BringsNoFile a → Grows w (effect w a r)
effect_grows w (acts.Attach h file) r none = absurd none
effect_grows w (acts.GetHandle name) (acts.Got (Ok h)) none = made_grows h (kind_of name) w
effect_grows w (acts.FreeHandle h) (acts.Removed (Ok file)) none = on_named h w _ (λ i c. freed_grows i c w)
effect_grows w (acts.SetParameter h key value) (acts.Plain (Ok done)) none = on_named h w _ (λ i c. stays w _ refl refl)
effect_grows w (acts.SetConfig h key value) (acts.Plain (Ok done)) none = on_named h w _ (λ i c. stays w _ refl refl)
effect_grows w (acts.SetupTunnel output input) (acts.Joined (Ok supplier)) none =
    on_named output.handle w _ (λ i c. on_named input.handle w _ (λ j d. on_both (port_of c output.index) (port_of d input.index) w _ (λ p q. stays w _ refl refl)))
effect_grows w (acts.DropTunnel output input) (acts.Plain (Ok done)) none =
    on_named output.handle w _ (λ i c. on_named input.handle w _ (λ j d. on_both (port_of c output.index) (port_of d input.index) w _ (λ p q. stays w _ refl refl)))
effect_grows w (acts.SendCommand h command) (acts.Plain (Ok done)) none = on_named h w _ (λ i c. stays w _ refl refl)
effect_grows w (acts.RunCommand h) (acts.Acted (Ok Did)) none = on_named h w _ (λ i c. stays w _ refl refl)
effect_grows w (acts.AllocateBuffer h port) (acts.Allocated (Ok header)) none = on_port h port w _ (λ i c p. stays w _ refl refl)
effect_grows w (acts.UseBuffer h port bytes) (acts.Used (Ok header)) none = on_port h port w _ (λ i c p. stays w _ refl refl)
effect_grows w (acts.FreeBuffer h port header) (acts.Freed (Ok memory)) none = on_port h port w _ (λ i c p. stays w _ refl refl)
effect_grows w (acts.EmptyThisBuffer h port header) (acts.Plain (Ok done)) none = on_port h port w _ (λ i c p. stays w _ refl refl)
effect_grows w (acts.FillThisBuffer h port header) (acts.Plain (Ok done)) none = on_port h port w _ (λ i c p. stays w _ refl refl)
effect_grows w (acts.TakeNote h) (acts.Took (Ok (TookNote (TakenEvent event)))) none = on_named h w _ (λ i c. stays w _ refl refl)
effect_grows w (acts.TakeNote h) (acts.Took (Ok (TookNote (TakenEmpty header)))) none = on_named h w _ (λ i c. stays w _ refl refl)
effect_grows w (acts.TakeNote h) (acts.Took (Ok (TookNote (TakenFilled header)))) none = on_named h w _ (λ i c. stays w _ refl refl)
effect_grows w (acts.EndNote h progress) acts.Ended none = on_named h w _ (λ i c. stays w _ refl refl)
effect_grows w (acts.Supply h port) (acts.Supplied (Ok Did)) none = on_port h port w _ (λ i c p. stays w _ refl refl)
effect_grows w (acts.Release h port) (acts.Acted (Ok Did)) none = on_port h port w _ (λ i c p. unmade_stays (in_port (seen w.headers) p) w)
effect_grows w (acts.HandOver h port) (acts.Acted (Ok Did)) none = on_port h port w _ (λ i c p. link_stays p.state.link _ w (λ k. put_stays k TodoBack unchanged ((seen w.headers).done p.key) w))
effect_grows w (acts.HandBack h port) (acts.Acted (Ok Did)) none = on_port h port w _ (λ i c p. back_stays i c p p.state.link w)
effect_grows w acts.Grant (acts.Granted (granted.Granted h)) none = changed_stays granted_units (first_waiter w.components) w
effect_grows w acts.Preempt (acts.Preempted (preempted.Victim h)) none = changed_stays preempted_units (victim w.components) w
effect_grows w (acts.Claim h) (acts.Claimed (Ok (ClaimedWork work))) none = on_named h w _ (λ i c. stays w _ refl refl)
effect_grows w (acts.Finish done) acts.Finished none =
    at_there (place_numbered done.component w.components) w _ (λ i. at_there (slice_get w.components i) w (λ c. finished i c done w) (λ c. finished_grows i c done c.work w))
effect_grows w _ _ none = stays w w refl refl

outcome_grows : (w : World) (a : Act) (r : Reply) (v : World) → BringsNoFile a → Outcome w (turn w a r) v → Grows w v
outcome_grows w a r v none (Nothing e m) = stays w v (ap (λ (x : World). x.streams) e) (ap (λ (x : World). x.numbered) e)
outcome_grows w a r v none (Done C E) = and_then w (effect w a r) v (effect_grows w a r none) (closing_stays (effect w a r) v C)

pub step_grows : (w : World) (a : Act) (r : Reply) (v : World) → Sound w → Meets w a → Step w a r v → BringsNoFile a → Grows w v
step_grows w a r v S M s none = outcome_grows w a r v none (step_comes w a r v S M s)

-- ---- a component is made

made_number : (h : Handle) (o : Option Kind) (w v : World) → MatchOption o ⊥ (λ kind. ClosesTo (with_new_component h kind w) v) → w.numbered < v.numbered
made_number h None w v m = absurd m
made_number h (Some kind) w v m = let more = (closing_stays (with_new_component h kind w) v m).more in omega (arith, more)

-- it has the next number
pub get_grows : (w : World) (name : List ℕ) (h : Handle) (v : World) → GetHandle w name (Ok h) v → (h.generation ≡ w.numbered) × (w.numbered < v.numbered)
get_grows w name h v G = go (get_handle_refusal (look w) name) G
  where
    go : (o : Option OmxError) → AnswersOrMemory o (Ok h) w v (λ k. (k.generation ≡ w.numbered) × (is_vacant k.slot w.components ≡ true) × MatchOption (kind_of name) ⊥ (λ kind. ClosesTo (with_new_component k kind w) v))
        → (h.generation ≡ w.numbered) × (w.numbered < v.numbered)
    go None m = (m.0, made_number h (kind_of name) w v m.2)
    go (Some error) m = let no = m.0 in absurd cc
