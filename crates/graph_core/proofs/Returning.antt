-- The client object of a component comes back, with any progress: there is a world in which it was told what comes to it.
use Rattle.std.proofs.Common.{◌≡◌, ◌≢◌, inl, inr, ℕ, ◌<◌, Bool, true, false, not, List, [], ◌∷◌, ◌++◌, set, map, Option, Some, None, MatchOption, All, slice_get, is_none, filter, option_map, refl, sym, ◌∙◌, ap, subst, arith}
use Rattle.std.proofs.lemmas.Option.{slice_get-map}
use Rattle.std.proofs.lemmas.Bool.Decides.{nat_tests, eqb_tells}
use Rattle.std.proofs.lemmas.List.Elements.{All-append, All-nil, All-cons, All-filter, filter-append}
use Rattle.std.proofs.Common.{append-nil}
use Rattle.omx_types.specs.declared.state.State.{State}
use Rattle.omx_types.specs.declared.error.OmxError.{OmxError}
use Rattle.omx_types.specs.declared.command.Completion.TheVariants as completions
use Rattle.omx_types.specs.declared.command.Event.TheVariants as events
use Rattle.omx_types.specs.declared.command.Note.{Note}
use Rattle.omx_types.specs.declared.command.Note.TheVariants.{Told}
use Rattle.omx_types.specs.declared.command.Completion.{Completion}
use Rattle.il_machine.specs.declared.answer.Progress.{Progress}
use Rattle.il_machine.specs.World.{Component, Given, World, number_of, with_component}
use Rattle.il_machine.specs.Look.{Look}
use Rattle.il_machine.specs.Components.{noted_by, progress_of, progress_after, is_given_to, no_progress}
use Rattle.il_machine.specs.Notes.{back_in}
use Rattle.il_machine.specs.Whole.{Kept}
use Rattle.stock_laws.specs.Bare.{StandsBare, StepsBareWhere}
use Rattle.il_machine.specs.Sound.{Sound}
use Rattle.machine_laws.proofs.Notices.{sound_ended}
use Rattle.stock_laws.proofs.Entries.{held_same}
use Rattle.stock_laws.proofs.Lifting.{with_look}
use Rattle.stock_laws.proofs.Lists.{map_set}
use Rattle.stock_laws.proofs.Noting.{IsOnly, lift_ended, with_client_in}
use Rattle.stock_laws.proofs.Views.{sound_world}
use Rattle.note_queues.specs.Queues.{with_client}
use Rattle.il_component.specs.Entries.{Entry, component_of}
use Rattle.graph_core.specs.Clients.{IsPortDone}
use Rattle.graph_core.specs.Standing.{SoundWorld}
use Rattle.graph_core.specs.Entries.{Entries, components_of, look_of, noticed_in, held_by, progress_at, kept, changed_at, component_at}
use Rattle.graph_core.proofs.Replacing.{there}
use Rattle.graph_core.proofs.Stepping.{at_world, only, numbered_before}

-- ---- notes that come to a progress

abbrev state_notes : Option State → List Note
state_notes None = []
state_notes (Some state) = Told (events.CmdComplete (completions.State state)) ∷ []

abbrev eos_notes : Bool → List Note
eos_notes false = []
eos_notes true = Told (events.BufferFlag 0 1) ∷ []

abbrev error_notes : Option OmxError → List Note
error_notes None = []
error_notes (Some error) = Told (events.Error error) ∷ []

abbrev settings_notes : Option ℕ → List Note
settings_notes None = []
settings_notes (Some port) = Told (events.PortSettingsChanged port) ∷ []

abbrev port_notes : Option Completion → List Note
port_notes None = []
port_notes (Some completion) = Told (events.CmdComplete completion) ∷ []

abbrev notes_for : Progress → List Note
notes_for p = state_notes p.state ++ eos_notes p.eos ++ error_notes p.error ++ settings_notes p.settings ++ port_notes p.port

abbrev given_as : ℕ → List Note → List Given
given_as n [] = []
given_as n (note ∷ notes) = record { component = n; note = note } ∷ given_as n notes

abbrev comes : ℕ → List Note → Progress → Progress → Type 0
comes n xs p q = progress_after (given_as n xs) p ≡ q

comes_on : (n : ℕ) (xs ys : List Note) (p q r : Progress) → comes n xs p q → comes n ys q r → comes n (xs ++ ys) p r
comes_on n [] ys p q r e f = ap (progress_after (given_as n ys)) e ∙ f
comes_on n (x ∷ xs) ys p q r e f = comes_on n xs ys (noted_by x p) q r e f

abbrev with_all : Option State → Bool → Option OmxError → Option ℕ → Option Completion → Progress
with_all s b e q r = record { state = s; eos = b; error = e; settings = q; port = r }

comes_state : (n : ℕ) (s : Option State) → comes n (state_notes s) no_progress (with_all s false None None None)
comes_state n None = refl
comes_state n (Some state) = refl

comes_eos : (n : ℕ) (s : Option State) (b : Bool) → comes n (eos_notes b) (with_all s false None None None) (with_all s b None None None)
comes_eos n s false = refl
comes_eos n s true = refl

comes_error : (n : ℕ) (s : Option State) (b : Bool) (e : Option OmxError) → comes n (error_notes e) (with_all s b None None None) (with_all s b e None None)
comes_error n s b None = refl
comes_error n s b (Some error) = refl

comes_settings : (n : ℕ) (s : Option State) (b : Bool) (e : Option OmxError) (q : Option ℕ) → comes n (settings_notes q) (with_all s b e None None) (with_all s b e q None)
comes_settings n s b e None = refl
comes_settings n s b e (Some port) = refl

comes_port : (n : ℕ) (s : Option State) (b : Bool) (e : Option OmxError) (q : Option ℕ) (r : Option Completion) → IsPortDone r → comes n (port_notes r) (with_all s b e q None) (with_all s b e q r)
comes_port n s b e q None d = refl
comes_port n s b e q (Some (completions.Disable port)) d = refl
comes_port n s b e q (Some (completions.Enable port)) d = refl
comes_port n s b e q (Some (completions.State state)) d = absurd d
comes_port n s b e q (Some (completions.Flush port)) d = absurd d
comes_port n s b e q (Some (completions.Mark port)) d = absurd d

comes_to : (n : ℕ) (p : Progress) → IsPortDone p.port → comes n (notes_for p) no_progress p
comes_to n p d =
    let s = p.state in
    let b = p.eos in
    let e = p.error in
    let q = p.settings in
    let a1 = comes_on n (state_notes s) (eos_notes b) no_progress (with_all s false None None None) (with_all s b None None None) (comes_state n s) (comes_eos n s b) in
    let a2 = comes_on n (state_notes s ++ eos_notes b) (error_notes e) no_progress (with_all s b None None None) (with_all s b e None None) a1 (comes_error n s b e) in
    let a3 = comes_on n (state_notes s ++ eos_notes b ++ error_notes e) (settings_notes q) no_progress (with_all s b e None None) (with_all s b e q None) a2 (comes_settings n s b e q) in
    comes_on n (state_notes s ++ eos_notes b ++ error_notes e ++ settings_notes q) (port_notes p.port) no_progress (with_all s b e q None) p a3 (comes_port n s b e q p.port d)

all_own : (n : ℕ) (ns : List Note) → filter (is_given_to n) (given_as n ns) ≡ given_as n ns
all_own n [] = refl
all_own n (note ∷ ns) = let h = all_own n ns in grind (arith, nat_tests)

none_own : (m n : ℕ) (ns : List Note) → m ≢ n → filter (is_given_to m) (given_as n ns) ≡ []
none_own m n [] d = refl
none_own m n (note ∷ ns) d = let h = none_own m n ns d in grind (arith, nat_tests)

abbrev without_own : ℕ → List Given → List Given
without_own n gs = filter (λ g. not (is_given_to n g)) gs

own_gone : (n : ℕ) (gs : List Given) → filter (is_given_to n) (without_own n gs) ≡ []
own_gone n [] = refl
own_gone n (g ∷ gs) = let h = own_gone n gs in grind (arith, nat_tests)

others_left : (m n : ℕ) (gs : List Given) → m ≢ n → filter (is_given_to m) (without_own n gs) ≡ filter (is_given_to m) gs
others_left m n [] d = refl
others_left m n (g ∷ gs) d = let h = others_left m n gs d in grind (arith, nat_tests)

all_below : (n k : ℕ) (ns : List Note) → n < k → All (λ g. g.component < k) (given_as n ns)
all_below n k [] b = All-nil (λ g. g.component < k)
all_below n k (note ∷ ns) b = All-cons (λ g. g.component < k) (record { component = n; note = note }) (given_as n ns) b (all_below n k ns b)

-- the component's notes were others, which come to the progress
abbrev pub given_for : ℕ → Progress → List Given → List Given
given_for n p gs = without_own n gs ++ given_as n (notes_for p)

abbrev pub regiven : ℕ → Progress → World → World
regiven n p w = record w { given = given_for n p w.given }

pub own_progress : (c : Component) (p : Progress) (w : World) → IsPortDone p.port → p ≡ progress_of c (regiven (number_of c) p w)
own_progress c p w d =
    let n = number_of c in
    let e : filter (is_given_to n) (given_for n p w.given) ≡ given_as n (notes_for p) =
    filter-append (is_given_to n) (without_own n w.given) (given_as n (notes_for p)) ∙ rw (own_gone n w.given) (all_own n (notes_for p)) in
    sym (ap (λ (gs : List Given). progress_after gs no_progress) e ∙ comes_to n p d)

other_progress : (d : Component) (n : ℕ) (p : Progress) (w : World) → number_of d ≢ n → progress_of d (regiven n p w) ≡ progress_of d w
other_progress d n p w a =
    let m = number_of d in
    let e : filter (is_given_to m) (given_for n p w.given) ≡ filter (is_given_to m) w.given =
    filter-append (is_given_to m) (without_own n w.given) (given_as n (notes_for p)) ∙ rw (none_own m n (notes_for p) a, others_left m n w.given a) (append-nil _) in
    ap (λ (gs : List Given). progress_after gs no_progress) e

pub regiven_stands : (k : Kept) (w : World) (i : ℕ) (c : Component) (p : Progress) → StandsBare k w → slice_get w.components i ≡ Some c → c.client_out ≡ true → IsOnly i c w.components → number_of c < w.numbered → StandsBare k (regiven (number_of c) p w)
regiven_stands k w i c p S at gone one few = record {
  looks = S.looks;
  loads = S.loads;
  noticed = S.noticed;
  progress = λ j d h out. elim (eqb_tells j i) [
    | inl q ↦
        let z : Some d ≡ Some c = sym h ∙ rw q.1 at in
        let y : d ≡ c = cc in
        let o : d.client_out ≡ true = rw y gone in
        absurd cc
    | inr q ↦ S.progress j d h out ∙ ap (λ (x : Progress). Some (Some x)) (sym (other_progress d (number_of c) p w (one j d h q.1)))
  ];
  streams = S.streams;
  once = S.once;
  given = All-append (λ g. g.component < w.numbered) (without_own (number_of c) w.given) (given_as (number_of c) (notes_for p)) (All-filter (λ g. not (is_given_to (number_of c) g)) (λ g. g.component < w.numbered) w.given S.given) (all_below (number_of c) w.numbered (notes_for p) few);
}

-- ---- the client object comes back

module _ {C : Type 0} (progress : C → Progress) (g : Entries C) (i : ℕ) (e : Entry C) (client : C) (W : SoundWorld (kept progress g)) (at : slice_get g.entries i ≡ Some e) where
  abbrev pub put_back : Entry C
  put_back = record e { queues = with_client client e.queues }

  abbrev c : Component
  c = component_of e

  kept_back : kept progress (changed_at i put_back g) ≡ with_client_in i (progress client) (with_look i (back_in c) (kept progress g))
  kept_back =
      let cs : components_of (set g.entries i put_back) ≡ set (components_of g.entries) i (back_in c) = map_set component_of g.entries i put_back in
      let cl : map (progress_at progress) (set g.entries i put_back) ≡ set (map (progress_at progress) g.entries) i (Some (progress client)) = map_set (progress_at progress) g.entries i put_back in
      let ns : noticed_in (set g.entries i put_back) ≡ noticed_in g.entries = held_same held_by g.entries i e put_back at refl in
      λ j. record {
        looks = record (look_of g) { components = cs j };
        clients = cl j;
        loads = (kept progress g).loads;
        noticed = ns j;
        parts = [];
      }

  abbrev Change : Kept → Type 0
  Change k = StepsBareWhere (kept progress g) k (λ w. progress client ≡ progress_of c w) (λ w v. v ≡ with_component i (back_in c) w)

  steps_back : Change (kept progress (changed_at i put_back g))
  steps_back = subst Change (sym kept_back) (lift_ended (kept progress g) i c (progress client) (progress_at progress e) (there progress g i e at) (slice_get-map (progress_at progress) g.entries i ∙ ap (option_map (progress_at progress)) at))

  abbrev Clause : Entries C → Type 0
  Clause after = MatchOption (component_at i g) ⊥ (λ c. StepsBareWhere (kept progress g) (kept progress after) (λ w. progress client ≡ progress_of c w) (λ w v. v ≡ with_component i (back_in c) w))

  pub back_returns : (d : Entry C) → d ≡ put_back → Clause (changed_at i d g)
  back_returns d q = subst (λ (x : Entry C). Clause (changed_at i x g)) (sym q) (rw (there progress g i e at) steps_back)

  world_back : IsPortDone (progress client).port → is_none e.queues.client ≡ true → SoundWorld (kept progress (changed_at i put_back g))
  world_back done gone =
      let w = W.world in
      let k = kept progress g in
      let here = at_world progress g i e w W.stands at in
      let cs : w.components ≡ components_of g.entries = ap (λ (l : Look). l.components) W.stands.looks in
      let n : w.numbered ≡ g.numbered = ap (λ (l : Look). l.numbered) W.stands.looks in
      let S = regiven_stands k w i c (progress client) W.stands here gone (subst (IsOnly i c) (sym cs) (only progress g i e W at)) (rw n (numbered_before progress g i e W at)) in
      let u = regiven (number_of c) (progress client) w in
      let sound : Sound u = sound_world k w u W.stands W.sound S in
      let x = steps_back u S (own_progress c (progress client) w done) in
      record { world = x.0; stands = x.1; sound = subst Sound (sym x.2) (sound_ended u i c sound here) }

  pub back_worlds : (d : Entry C) → d ≡ put_back → IsPortDone (progress client).port → is_none e.queues.client ≡ true → SoundWorld (kept progress (changed_at i d g))
  back_worlds d q done gone = subst (λ (x : Entry C). SoundWorld (kept progress (changed_at i x g))) (sym q) (world_back done gone)
