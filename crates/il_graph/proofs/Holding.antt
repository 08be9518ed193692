-- The part of a component that a call found.
use Rattle.std.proofs.Common.{◌≡◌, ℕ, ◌-◌, ◌*◌, ◌<◌, ◌≤◌, Bool, true, false, not, ◌||◌, nat_lt, List, [], ◌∷◌, drop, length, map, Option, Some, None, MatchOption, option_map, slice_get, refl, ◌∙◌, ap, subst, ltb-false, sym, get_or, arith}
use Rattle.std.specs.Prelude.{is_some}
use Rattle.std.specs.List.{list_any}
use Rattle.std.proofs.lemmas.List.{length-map}
use Rattle.std.proofs.lemmas.Option.{slice_get-get_or, slice_get-map, slice_get_within}
use Rattle.omx_types.specs.declared.format.Format.{Format}
use Rattle.omx_types.specs.declared.handle.Handle.{Handle}
use Rattle.omx_types.specs.declared.kind.Kind.{Kind}
use Rattle.omx_types.specs.declared.kind.Kind.TheVariants as kinds
use Rattle.omx_types.specs.declared.state.State.{State}
use Rattle.omx_types.specs.declared.state.State.TheVariants as states
use Rattle.omx_types.specs.declared.error.OmxError.TheVariants as errors
use Rattle.omx_types.specs.Formats.{frame_bytes_of}
use Rattle.part_api.specs.declared.attached.Attached.{Attached}
use Rattle.il_machine.specs.declared.answer.Progress.{Progress}
use Rattle.il_machine.specs.Files.{Offered, OfferedFrom, OfferedTo, attach_refusal, file_port_format, is_bad_file, is_for_kind, is_wrong_format}
use Rattle.il_machine.specs.Components.{free_refusal}
use Rattle.il_machine.specs.Due.{each_port}
use Rattle.il_machine.specs.Headers.{Seen}
use Rattle.il_machine.specs.Kinds.{is_source}
use Rattle.il_machine.specs.Lists.{any_of}
use Rattle.il_machine.specs.Look.{Look}
use Rattle.il_machine.specs.Parameters.{is_settable, is_too_large}
use Rattle.il_machine.specs.Ports.{is_at_rest, is_joined, has_no_header}
use Rattle.il_machine.specs.States.{is_loaded, is_invalid, is_running}
use Rattle.il_machine.specs.World.{Component, Work, ports_of}
use Rattle.il_machine.specs.Sound.{IsConnected, IsSound, may_work}
use Rattle.machine_laws.proofs.Accepting.{both_of, not_not, passed}
use Rattle.machine_laws.proofs.Every.{at_place}
use Rattle.audio_parts.specs.AnyParts.{MayAttach, OnFrom, attached_of}
use Rattle.audio_parts.specs.declared.part_file.PartFile.{PartFile}
use Rattle.audio_parts.specs.declared.part_file.PartFile.TheVariants as files
use Rattle.audio_parts.specs.Shown.{ShownPart}
use Rattle.il_component.specs.Files.{offered as file_offered}
use Rattle.graph_core.specs.Entries.{Entries, component_at, components_of}
use Rattle.il_graph.specs.Shown.{ArePartsOf, Shown, IsWhole, IsPartOf, offered}
use Rattle.il_graph.proofs.Calling.{Found, at_some}
use Rattle.il_graph.proofs.Filing.{offered_so, told_of}
use Rattle.il_graph.proofs.Lending.{part_there}
use Rattle.il_graph.proofs.Ready.{either_of}

none_of : {A : Type 0} (o : Option A) → is_some o ≡ false → o ≡ None
none_of None h = refl
none_of (Some x) h = absurd cc

-- ---- no work of the component is out

pub free_of_work : (headers : Seen) (c : Component) → free_refusal headers c ≡ None → c.work ≡ None
free_of_work headers c h =
    let rest : List Bool = is_some c.work ∷ c.client_out ∷ [] in
    let all : List Bool = not (is_loaded c.state || is_invalid c.state) ∷ is_some c.pending ∷ not (each_port c (has_no_header headers)) ∷ list_any is_joined (ports_of c) ∷ rest in
    let a : any_of all ≡ false = (passed (any_of all) errors.IncorrectStateOperation None h).0 in
    let b = either_of (not (is_loaded c.state || is_invalid c.state)) (any_of (is_some c.pending ∷ not (each_port c (has_no_header headers)) ∷ list_any is_joined (ports_of c) ∷ rest)) a in
    let d = either_of (is_some c.pending) (any_of (not (each_port c (has_no_header headers)) ∷ list_any is_joined (ports_of c) ∷ rest)) b.1 in
    let e = either_of (not (each_port c (has_no_header headers))) (any_of (list_any is_joined (ports_of c) ∷ rest)) d.1 in
    let f = either_of (list_any is_joined (ports_of c)) (any_of rest) e.1 in
    none_of c.work (either_of (is_some c.work) (any_of (c.client_out ∷ [])) f.1).0

-- what an attach has passed
pub record IsAttachable (c : Component) (file : Offered) : Type 0 where
  pub for_kind : is_for_kind c.settings.kind file ≡ true
  pub without : c.file ≡ None
  pub good : is_bad_file c.settings.kind (file_port_format c) file ≡ false
  pub settable : is_settable c ≡ true

pub attach_passes : (c : Component) (file : Offered) → attach_refusal c file ≡ None → IsAttachable c file
attach_passes c file h =
    let tests : List Bool = not (is_for_kind c.settings.kind file) ∷ is_some c.file ∷ is_bad_file c.settings.kind (file_port_format c) file ∷ [] in
    let a = passed (is_invalid c.state) errors.InvalidState _ h in
    let b = passed (any_of tests) errors.BadParameter _ a.1 in
    let d = passed (not (is_settable c)) errors.IncorrectStateOperation _ b.1 in
    let e = either_of (not (is_for_kind c.settings.kind file)) (any_of (is_some c.file ∷ is_bad_file c.settings.kind (file_port_format c) file ∷ [])) b.0 in
    let f = either_of (is_some c.file) (any_of (is_bad_file c.settings.kind (file_port_format c) file ∷ [])) e.1 in
    record { for_kind = not_not (is_for_kind c.settings.kind file) e.0; without = none_of c.file f.0; good = (either_of (is_bad_file c.settings.kind (file_port_format c) file) false f.1).0; settable = not_not (is_settable c) d.0 }

-- the core, which knows no file's bytes, refuses nothing
pub attachable : {S K C : Type 0} (progress : C → Progress) (g : Entries C) (h : Handle) (i : ℕ) (F : Found progress g h i) (place size : S → ℕ) (told : S → Option (List ℕ)) (kept : K → Option (List ℕ)) (file : PartFile S K) (a : Attached) (there : ℕ)
    → a ≡ attached_of file → OnFrom file (λ src format frames. there ≡ size src - place src)
    → ((known : Option (List ℕ)) → MatchOption (component_at i g) ⊥ (λ c. None ≡ attach_refusal c (file_offered a there known))) → attach_refusal F.component (offered place size told kept file) ≡ None
attachable progress g h i F place size told kept file a there e f m =
    rw (← offered_so place size told kept file a there e f) (sym (at_some (λ c. None ≡ attach_refusal c (file_offered a there (told_of place told kept file))) (component_at i g) F.component F.at (m (told_of place told kept file))))

loaded_rests : (s : State) → is_loaded s ≡ true → (is_running s || is_invalid s) ≡ true → ⊥
loaded_rests states.Loaded l m = absurd cc
loaded_rests states.Idle l m = absurd cc
loaded_rests states.Executing l m = absurd cc
loaded_rests states.Pause l m = absurd cc
loaded_rests states.WaitForResources l m = absurd cc
loaded_rests states.Invalid l m = absurd cc

works_not : (o : Option Work) (c : Component) → c.work ≡ o → ((work : Work) → c.work ≡ Some work → may_work c ≡ true) → is_loaded c.state ≡ true → o ≡ None
works_not None c e f l = refl
works_not (Some work) c e f l = absurd (loaded_rests c.state l (f work e))

module _ {S K C : Type 0} (progress : C → Progress) (g : Shown S K C) (I : IsWhole progress g) (i : ℕ) (c : Component) (at : slice_get (components_of g.core.entries) i ≡ Some c) where
  at_world : slice_get I.worlds.world.components i ≡ Some c
  at_world = ap (λ (l : Look). slice_get l.components i) I.worlds.stands.looks ∙ at

  pub is_sound : IsSound c
  is_sound = at_place IsSound I.worlds.world.components i c I.worlds.sound.components at_world

  pub settled_work : is_settable c ≡ true → c.work ≡ None
  settled_work h =
      let N : IsConnected I.worlds.world c = at_place (IsConnected I.worlds.world) I.worlds.world.components i c I.worlds.sound.connected at_world in
      works_not c.work c refl (λ work e. (N.work work e).state) (both_of (is_loaded c.state) (is_at_rest c) h).0

  pub part_within : i < length g.parts
  part_within = let n = I.count in let m = slice_get_within (components_of g.core.entries) i c at in omega (arith, n, m)

  -- the part is there where no work is out
  pub holds_part : {P : Type 0} (f : P → ShownPart S K) (items : List (Option P)) → g.parts ≡ map (option_map f) items → c.work ≡ None → (o : Option P) → slice_get items i ≡ Some o → (p : P) × (o ≡ Some p) × IsPartOf c (f p)
  holds_part f items e free o here = part_there f (components_of g.core.entries) items i c o (subst (ArePartsOf (components_of g.core.entries)) e I.parts) at free here

  pub holds_it : {P : Type 0} (f : P → ShownPart S K) (items : List (Option P)) → g.parts ≡ map (option_map f) items → c.work ≡ None → (p : P) → slice_get items i ≡ Some (Some p) → IsPartOf c (f p)
  holds_it {P = P} f items e free p here =
      let x = holds_part f items e free (Some p) here in
      let q : x.0 ≡ p = let z = x.1 in cc in
      subst (λ (y : P). IsPartOf c (f y)) q x.2

pub items_within : {S K P : Type 0} (f : P → ShownPart S K) (items : List (Option P)) (i : ℕ) → i < length (map (option_map f) items) → i < length items
items_within f items i b = let n = length-map items (option_map f) in omega (arith, n, b)

-- the part at the place is the component's
pub record IsSeated {S K P : Type 0} (c : Component) (f : P → ShownPart S K) (items : List (Option P)) (i : ℕ) (seat : P) : Type 0 where
  pub tied : IsPartOf c (f seat)
  pub held : slice_get (map (option_map f) items) i ≡ Some (Some (f seat))

module _ {S K C P : Type 0} (progress : C → Progress) (f : P → ShownPart S K) (items : List (Option P)) (core : Entries C) (h : Handle) (i : ℕ) (F : Found progress core h i) (I : IsWhole progress (record { core = core; parts = map (option_map f) items })) where
  place_within : i < length items
  place_within = items_within f items i (part_within progress _ I i F.component F.at)

  pub seat_within : (n : ℕ) → n ≡ length items → i < n
  seat_within n e = subst (λ (m : ℕ). i < m) (sym e) place_within

  -- what is read there
  module _ (free : F.component.work ≡ None) (o : Option P) (read : o ≡ get_or items i o) where
    read_there : slice_get items i ≡ Some o
    read_there = slice_get-get_or items i o place_within ∙ ap Some (sym read)

    pub seat_there : o ≡ None → ⊥
    seat_there none =
        let x = holds_part progress _ I i F.component F.at f items refl free o read_there in
        let e : None ≡ Some x.0 = sym none ∙ x.1 in
        absurd cc

    pub seated : (seat : P) → o ≡ Some seat → IsSeated F.component f items i seat
    seated seat is =
        let there : slice_get items i ≡ Some (Some seat) = read_there ∙ ap Some is in
        record { tied = holds_it progress _ I i F.component F.at f items refl free seat there; held = slice_get-map (option_map f) items i ∙ ap (option_map (option_map f)) there }

-- ---- the file may come to the part

bad_from : (k : Kind) (port format : Format) (frames there : ℕ) (known : Option (List ℕ)) → is_bad_file k port (OfferedFrom format frames there known) ≡ false → frames * frame_bytes_of format ≤ there
bad_from k port format frames there known h =
    let a = either_of (is_wrong_format k port format) (any_of (is_too_large frames format ∷ nat_lt there (frames * frame_bytes_of format) ∷ [])) h in
    let b = either_of (is_too_large frames format) (any_of (nat_lt there (frames * frame_bytes_of format) ∷ [])) a.1 in
    ltb-false there (frames * frame_bytes_of format) (either_of (nat_lt there (frames * frame_bytes_of format)) false b.1).0

reads : (k : Kind) (format : Format) (frames there : ℕ) (known : Option (List ℕ)) → is_for_kind k (OfferedFrom format frames there known) ≡ true → is_source k ≡ true
reads kinds.Source format frames there known h = refl
reads kinds.Late format frames there known h = refl
reads kinds.Decoder format frames there known h = absurd cc
reads kinds.Alaw format frames there known h = absurd cc
reads kinds.Mulaw format frames there known h = absurd cc
reads kinds.Gain format frames there known h = absurd cc
reads (kinds.Mixer inputs) format frames there known h = absurd cc
reads (kinds.Splitter outputs) format frames there known h = absurd cc
reads kinds.Sink format frames there known h = absurd cc

writes : (k : Kind) (frames : ℕ) (known : Option (List ℕ)) → is_for_kind k (OfferedTo frames known) ≡ true → k ≡ kinds.Sink
writes kinds.Sink frames known h = refl
writes kinds.Source frames known h = absurd cc
writes kinds.Late frames known h = absurd cc
writes kinds.Decoder frames known h = absurd cc
writes kinds.Alaw frames known h = absurd cc
writes kinds.Mulaw frames known h = absurd cc
writes kinds.Gain frames known h = absurd cc
writes (kinds.Mixer inputs) frames known h = absurd cc
writes (kinds.Splitter outputs) frames known h = absurd cc

pub may_attach : {S K : Type 0} (place size : S → ℕ) (told : S → Option (List ℕ)) (kept : K → Option (List ℕ)) (k : Kind) (port : Format) (file : PartFile S K) → OnFrom file (λ src format frames. place src ≤ size src)
    → is_for_kind k (offered place size told kept file) ≡ true → is_bad_file k port (offered place size told kept file) ≡ false → MayAttach place size k file
may_attach place size told kept k port (files.From src format frames) w f b =
    let n = bad_from k port format frames (size src - place src) (option_map (drop (place src)) (told src)) b in
    (reads k format frames (size src - place src) (option_map (drop (place src)) (told src)) f, omega (arith, n, w))
may_attach place size told kept k port (files.To snk frames) w f b = writes k frames (kept snk) f
