-- A play with late sources that is over: its components are at their end, its links are joined, and there is no header.
use Rattle.std.proofs.Common.{◌≡◌, ◌≢◌, inl, inr, ℕ, ◌<◌, Bool, true, false, not, ◌&&◌, ◌||◌, List, [], ◌∷◌, ◌++◌, All, length, slice_get, Some, None, refl, sym, ◌∙◌, ap, subst, arith}
use Rattle.std.proofs.lemmas.Option.{slice_get_within}
use Rattle.omx_types.specs.declared.command.Note.{Note}
use Rattle.omx_types.specs.declared.state.State.TheVariants.{Loaded}
use Rattle.il_machine.specs.declared.port.Link.{Link}
use Rattle.il_machine.specs.declared.port.PortState.{PortState}
use Rattle.il_machine.specs.Finishing.{end_note}
use Rattle.il_machine.specs.Headers.{count_headers, find_header, is_for, weight}
use Rattle.il_machine.specs.Ports.{IsCalmPort}
use Rattle.il_machine.specs.Queued.{notes_given}
use Rattle.il_machine.specs.States.{is_invalid, is_loaded}
use Rattle.il_machine.specs.World.{Component, HeaderRecord, World, number_of}
use Rattle.machine_laws.proofs.Every.{from_places}
use Rattle.machine_laws.proofs.Finding.{either, found_head}
use Rattle.machine_laws.proofs.Lookups.{port_parts}
use Rattle.stock_laws.proofs.Leaving.{and_false_right}
use Rattle.play_build_laws.specs.Dismantling.{AreLinks, HasEnd, IsParted, IsQuiet, IsResting}
use Rattle.play_model.specs.Changes.{Change}
use Rattle.play_model.specs.Play.{Play, component_at}
use Rattle.play_model.specs.Reached.{IsOver}
use Rattle.play_model.proofs.Files.{over_unmade}
use Rattle.play_world_laws.specs.Cast.{Cast, IsCast, components_of, links_of, output_at, script_place}
use Rattle.play_world_laws.specs.Standing.{pending_at, state_at}
use Rattle.play_world_laws.specs.Telling.{last_note, out_of, state_note, unheard}
use Rattle.play_world_laws.specs.Wiring.{joined_state, link_to}
use Rattle.play_world_laws.specs.Worlds.{ends_untold}
use Rattle.play_world_laws.proofs.Rooms.{port_of_state}
use Rattle.play_plan_laws.specs.Endings.{IsAtEnd}
use Rattle.play_world_laws.specs.PlayWorlds.{IsActorAt, IsPlayWorld, PlayCast, announced_note, commands_of_end, end_of_link, notes_of_end, port_commands, port_notes, port_number, settings_notes, settings_of_end}
use Rattle.play_world_laws.proofs.ChangeEnds.{end_inside}
use Rattle.play_world_laws.proofs.QueuedLists.{links_none}
use Rattle.play_world_laws.proofs.Standing.{late_commands_are, pending_is, state_is}
use Rattle.play_world_laws.proofs.ChangeCounts.{made_output}
use Rattle.play_world_laws.proofs.CalmHappenings.{IsResting as IsResting_change, free, its_end, its_port, joined, resting}
use Rattle.play_turn_laws.specs.Sides.{sides_of}

-- ---- links

same_sides : (x : Cast) → IsCast x → (s t : Bool) (k l : ℕ) → k < links_of x → l < links_of x → sides_of x s k ≡ sides_of x t l → (s ≡ t) × (k ≡ l)
same_sides x C true true k l a b e = (refl, C.inputs k l a b e)
same_sides x C false false k l a b e = (refl, C.outputs k l a b e)
same_sides x C true false k l a b e = absurd (C.beside l k b a (sym e))
same_sides x C false true k l a b e = absurd (C.beside k l a b e)

pub links_are : (x : PlayCast) (recent : ℕ) (p : Play) (w : World) → IsPlayWorld x recent p w → AreLinks (sides_of x.cast) (links_of x.cast)
links_are x recent p w W = record { one = λ s t k l a b e. same_sides x.cast W.cast_is s t k l a b e; apart = λ l b. (W.wired l b).apart }

-- ---- plain values

calm_joined : (link : Link) → IsCalmPort (joined_state link)
calm_joined link = record { steady = refl; quiet = refl; unmarked = refl }

at_four : (phase stage : ℕ) → phase ≡ 4 → stage ≡ 4 → (state_at phase stage ≡ Loaded) × (pending_at phase stage ≡ None) × (state_note phase stage ≡ [])
at_four phase stage e f = rw (e, f) (refl, refl, refl)

loaded_down : (a : Component) → a.state ≡ Loaded → (is_loaded a.state || is_invalid a.state) ≡ true
loaded_down a e = rw e refl

untold_told : (a b t : Bool) → t ≡ true → (a && b && not t) ≡ false
untold_told a b t e = rw e (and_false_right (a && b))

none_out : (out : Bool) (given notes : List Note) (note : Note) → out ≡ true → last_note given ≡ note ∷ [] → out_of out given ++ notes ≡ [] → ⊥
none_out out given notes note e f h = let z : note ∷ notes ≡ [] = sym ((λ i. out_of (e i) given ++ notes) ∙ ap (λ (ns : List Note). ns ++ notes) f) ∙ h in cc

module _ (x : PlayCast) (recent : ℕ) (p : Play) (w : World) (W : IsPlayWorld x recent p w) (over : IsOver (x.cast).layout p) where
  not_two : p.phase ≢ 2
  not_two h = let f = over.phase in omega arith

  -- ---- a component

  module _ (i : ℕ) (a : Component) (e : slice_get w.components i ≡ Some a) where
    below : i < components_of x.cast
    below = let m = W.many in let b = slice_get_within w.components i a e in omega arith

    abbrev c : ℕ
    c = ((W.cast_is).each i below).0

    c_below : c < components_of x.cast
    c_below = ((W.cast_is).each i below).1

    placed : script_place x.cast c ≡ i
    placed = ((W.cast_is).each i below).2

    there : slice_get w.components (script_place x.cast c) ≡ Some a
    there = subst (λ (n : ℕ). slice_get w.components n ≡ Some a) (sym placed) e

    abbrev A : IsActorAt x recent p w c a
    A = W.actors c a c_below there

    number : number_of a ≡ i
    number = A.number ∙ placed

    -- each port is an end of a link that is joined
    pub record IsPort (port : ℕ) (s : PortState) : Type 0 where
      pub side : Bool
      pub link : ℕ
      pub inside : link < links_of x.cast
      pub key : sides_of x.cast side link ≡ record { component = i; port = port }
      pub state : s ≡ joined_state (link_to x.cast link (sides_of x.cast (not side) link))

    is_port : (port : ℕ) (s : PortState) → slice_get a.ports port ≡ Some s → IsPort port s
    is_port port s f =
        let y = port_of_state w i port a s W.sound e f in
        let P = its_port x recent p w W not_two c a c_below there A port y.0 y.1 in
        let key : (y.0).key ≡ record { component = i; port = port } = (port_parts a port y.0 y.1).key ∙ (λ t. record { component = number t; port = port }) in
        by_side P.side P.link P.below ((sym (P.end).key) ∙ key) (sym y.2 ∙ (P.end).state)
      where
        by_side : (o : Bool) (l : ℕ) → l < links_of x.cast → end_of_link x.cast o l ≡ record { component = i; port = port } → s ≡ joined_state (link_to x.cast l (end_of_link x.cast (not o) l)) → IsPort port s
        by_side true l b k h = record { side = false; link = l; inside = b; key = k; state = h }
        by_side false l b k h = record { side = true; link = l; inside = b; key = k; state = h }

    -- nothing is queued at it
    quiet_change : (k : Change) (port : ℕ) → IsResting_change k → announced_note k.step port ≡ []
    quiet_change k port (inl h) = ap (λ (n : ℕ). announced_note n port) h.0
    quiet_change k port (inr h) = ap (λ (n : ℕ). announced_note n port) h.0

    no_settings : settings_notes x.cast p c ≡ []
    no_settings = links_none (x.cast).layout (settings_of_end x.cast p) c (links_of x.cast) each
      where
        each : (o : Bool) (l : ℕ) → l < links_of x.cast → ((x.cast).layout).is_late l ≡ true → component_at (x.cast).layout o l ≡ c → settings_of_end x.cast p o l ≡ []
        each true l b t g = quiet_change (p.change l) ((x.cast).output_port l) (resting x recent p w W not_two l b)
        each false l b t g = refl

    no_notes : port_notes x.cast p c ≡ []
    no_notes = links_none (x.cast).layout (notes_of_end x.cast p) c (links_of x.cast) (λ o l b t g. each o l (resting x recent p w W not_two l b))
      where
        each : (o : Bool) (l : ℕ) → IsResting_change (p.change l) → notes_of_end x.cast p o l ≡ []
        each true l (inl h) = let n = h.1 in rw n refl
        each false l (inl h) = let n = h.2 in rw n refl
        each true l (inr h) = let n = h.1 in rw n refl
        each false l (inr h) = let n = h.2 in rw n refl

    no_commands : port_commands x.cast p c ≡ []
    no_commands = links_none (x.cast).layout (commands_of_end x.cast p) c (links_of x.cast) (λ o l b t g. each o l (resting x recent p w W not_two l b))
      where
        each : (o : Bool) (l : ℕ) → IsResting_change (p.change l) → commands_of_end x.cast p o l ≡ []
        each true l (inl h) = let n = h.1 in rw n refl
        each false l (inl h) = let n = h.2 in rw n refl
        each true l (inr h) = let n = h.1 in rw n refl
        each false l (inr h) = let n = h.2 in rw n refl

    nothing_untold : ends_untold x.cast p c ≡ false
    nothing_untold = either (((x.cast).layout).is_sink c)
        (λ s. untold_told (((x.cast).layout).is_sink c) ((p.flow).ended c) (p.told c) (A.over (let f = over.phase in omega arith) s))
        (λ f. rw f refl)

    all_heard : unheard w a ≡ []
    all_heard =
        let s0 = (at_four p.phase (p.stage c) over.phase (over.all c c_below)).2 in
        let s1 = no_settings in
        let s2 = no_notes in
        let s3 = nothing_untold in
        A.notes ∙ (λ t. s0 t ++ (s1 t ++ (s2 t ++ end_note (s3 t))))

    client_in : a.client_out ≡ false
    client_in = either a.client_out
        (λ t. let n = A.out t in absurd (none_out a.client_out (notes_given (number_of a) w) a.notes n.0 t n.1 all_heard))
        (λ f. f)

    rests : IsResting a
    rests =
        let four = at_four p.phase (p.stage c) over.phase (over.all c c_below) in
        record {
          down = loaded_down a (state_is x recent p w c a A ∙ four.0);
          calm = record {
            resting = pending_is x recent p w c a A ∙ four.1;
            ports = from_places IsCalmPort a.ports (λ port s f. let k = is_port port s f in subst IsCalmPort (sym k.state) (calm_joined (link_to x.cast k.link (sides_of x.cast (not k.side) k.link))));
          };
          work = free x recent p w W not_two c a A;
          client = client_in;
        }

    at_end : IsAtEnd a
    at_end = record {
      state = state_is x recent p w c a A ∙ (at_four p.phase (p.stage c) over.phase (over.all c c_below)).0;
      enabled = from_places (λ (s : PortState). s.enabled ≡ true) a.ports (λ port s f. ap (λ (t : PortState). t.enabled) (is_port port s f).state);
      commands = late_commands_are x recent p w c a A (let s = over.all c c_below in omega arith) ∙ no_commands;
      told = sym (ap (λ (b : Bool). out_of b (notes_given (number_of a) w) ++ a.notes) client_in) ∙ all_heard;
    }

  pub all_at_end : All IsAtEnd w.components
  all_at_end = from_places IsAtEnd w.components at_end

  -- ---- headers

  none_made : (hs : List HeaderRecord) → w.headers ≡ hs → w.headers ≡ []
  none_made [] e = e
  none_made (r ∷ rs) e =
      let f : find_header r.state.number w.headers ≡ Some r = ap (find_header r.state.number) e ∙ found_head r.state.number r rs refl in
      let H = W.headers r.state.number r f in
      let one : weight (is_for (output_at x.cast H.link) r.state) ≡ 1 = ap weight (H.whole).for_link in
      let many : count_headers (is_for (output_at x.cast H.link)) (r ∷ rs) ≡ 0 =
      ap (count_headers (is_for (output_at x.cast H.link))) (sym e) ∙ (made_output x recent p w W H.link H.below (joined x recent p w W not_two H.link H.below) ∙ over_unmade (x.cast).layout p W.reached over H.link H.below) in
      absurd (omega (arith, one, many))

  -- ---- the links

  inside : (side : Bool) (l : ℕ) → l < links_of x.cast → (sides_of x.cast side l).component < length w.components
  inside true l b = let m = W.many in let z = (W.cast_is).placed (component_at (x.cast).layout false l) (end_inside x recent p w W false l b) in omega arith
  inside false l b = let m = W.many in let z = (W.cast_is).placed (component_at (x.cast).layout true l) (end_inside x recent p w W true l b) in omega arith

  has_end : (side : Bool) (l : ℕ) (a : Component) → l < links_of x.cast → slice_get w.components (sides_of x.cast side l).component ≡ Some a → HasEnd (sides_of x.cast) side l a
  has_end true l a b e =
      let c : ℕ = component_at (x.cast).layout false l in
      let m = end_inside x recent p w W false l b in
      let E = its_end x recent p w W not_two c a m e (W.actors c a m e) l false b refl in
      let P = port_parts a (port_number x.cast false l) E.port E.there in
      record {
        setting = (E.port).setting;
        set = P.setting;
        direction = (E.end).direction;
        state = (E.port).state;
        there = P.state;
        link = link_to x.cast l (end_of_link x.cast true l);
        joined = ap (λ (s : PortState). s.link) (E.end).state;
        peer = refl;
      }
  has_end false l a b e =
      let c : ℕ = component_at (x.cast).layout true l in
      let m = end_inside x recent p w W true l b in
      let E = its_end x recent p w W not_two c a m e (W.actors c a m e) l true b refl in
      let P = port_parts a (port_number x.cast true l) E.port E.there in
      record {
        setting = (E.port).setting;
        set = P.setting;
        direction = (E.end).direction;
        state = (E.port).state;
        there = P.state;
        link = link_to x.cast l (end_of_link x.cast false l);
        joined = ap (λ (s : PortState). s.link) (E.end).state;
        peer = refl;
      }

  quiet : IsQuiet w
  quiet = record {
    sound = W.sound;
    headers = none_made w.headers refl;
    components = from_places IsResting w.components rests;
    numbered = number;
  }

  pub joined_all : IsParted (sides_of x.cast) (links_of x.cast) 0 w
  joined_all = record {
    quiet = quiet;
    inside = inside;
    joined = λ side l a n b e. has_end side l a b e;
    only = λ i port a s e f t. let E = is_port i a e port s f in record { side = E.side; number = E.link; later = omega arith; below = E.inside; is = E.key };
  }
