-- A port of a link that is being changed gets the format of its late source's file.
use Rattle.std.proofs.Common.{◌≡◌, ◌≢◌, inl, inr, ℕ, zero, suc, ◌+◌, ◌*◌, ◌/◌, ◌<◌, ◌≤◌, Bool, true, false, not, ◌&&◌, ◌||◌, nat_le, nat_lt, if◌then◌else◌, is_some, [], ◌∷◌, slice_get, Option, Some, None, Result, Ok, Err, refl, sym, ◌∙◌, ap, subst, le-leb, lt-ltb, arith}
use Rattle.std.proofs.lemmas.Option.{get_or_from_slice_get, slice_get_within}
use Rattle.std.proofs.Math.Nat.{div-mul-le_self}
use Rattle.omx_types.specs.declared.error.OmxError.{OmxError}
use Rattle.omx_types.specs.declared.format.Format.{Format}
use Rattle.omx_types.specs.declared.handle.Handle.{Handle}
use Rattle.omx_types.specs.declared.kind.Kind.{Kind}
use Rattle.omx_types.specs.declared.kind.Kind.TheVariants as kinds
use Rattle.omx_types.specs.declared.param.Param.{Param}
use Rattle.omx_types.specs.declared.param.Param.TheVariants as params
use Rattle.omx_types.specs.declared.param.ParamKey.{ParamKey}
use Rattle.omx_types.specs.declared.param.PortDefinition.{PortDefinition}
use Rattle.omx_types.specs.Formats.{frame_bytes_of}
use Rattle.part_api.specs.declared.attached.Attached.{Attached}
use Rattle.part_api.specs.declared.attached.Attached.TheVariants.{From, To}
use Rattle.il_machine.specs.declared.port.Link.{Link}
use Rattle.il_machine.specs.declared.port.Port.{Port}
use Rattle.il_machine.specs.declared.port.PortKey.{PortKey}
use Rattle.il_machine.specs.declared.port.PortSetting.{PortSetting}
use Rattle.il_machine.specs.declared.port.PortState.{PortState}
use Rattle.il_machine.specs.Answers.{Answers, plain}
use Rattle.il_machine.specs.Due.{ClosesTo, unheld}
use Rattle.il_machine.specs.Files.{file_port_format, is_wrong_format}
use Rattle.il_machine.specs.Headers.{seen}
use Rattle.il_machine.specs.Kinds.{is_auto, is_input, is_late, is_port_format, is_source, ports_in}
use Rattle.il_machine.specs.Lists.{any_of}
use Rattle.il_machine.specs.Look.{look}
use Rattle.il_machine.specs.Parameters.{SetParameter, is_fixed, is_format_fixed, is_off_file, is_settable, is_too_large, keeps_format, overflows, set_parameter_refusal, unheld_at, with_value, would_fit}
use Rattle.il_machine.specs.Parts.{file_format}
use Rattle.il_machine.specs.Ports.{has_no_header, is_joined}
use Rattle.il_machine.specs.Settings.{Settings, changed_by, fits, is_between, is_definition_of, is_within_limits, same_bool, same_format, with_setting}
use Rattle.il_machine.specs.Sound.{Sound, may_have}
use Rattle.il_machine.specs.States.{is_invalid}
use Rattle.il_machine.specs.World.{Component, World, with_component, with_port}
use Rattle.machine_laws.proofs.Accepting.{both_of, is_not}
use Rattle.machine_laws.proofs.Every.{at_set}
use Rattle.machine_laws.proofs.Finding.{either}
use Rattle.machine_laws.proofs.Lookups.{port_parts}
use Rattle.machine_laws.proofs.Parts.{parts_of}
use Rattle.machine_laws.proofs.Tunnels.{definition_parts}
use Rattle.machine_laws.proofs.Values.{sound_set}
use Rattle.play_model.specs.Network.{IsInput, IsOutput}
use Rattle.play_model.specs.Acts.{Act, CanAct, acted}
use Rattle.play_model.specs.Changes.{Change, conducted}
use Rattle.play_model.specs.Play.{Play, component_at}
use Rattle.play_model.proofs.Handing.{act_reaches}
use Rattle.play_world_laws.specs.Cast.{giver_of, script_place}
use Rattle.play_world_laws.specs.Standing.{state_at}
use Rattle.play_world_laws.specs.Wiring.{link_to}
use Rattle.play_world_laws.specs.Worlds.{Names}
use Rattle.play_world_laws.proofs.Arrivals.{unmade_by}
use Rattle.play_world_laws.proofs.Lists.{resolved}
use Rattle.play_world_laws.specs.Changing.{is_enabled_at, is_held_at, is_joined_at, is_set, is_set_at, state_by}
use Rattle.play_world_laws.specs.PlayWorlds.{IsActorAt, IsAlike, IsEndAt, IsPlayWorld, IsSetFor, PlayCast, end_of_link, port_number}
use Rattle.play_world_laws.proofs.Ports.{set_input_state, set_output_state}
use Rattle.play_world_laws.specs.Conducting.{IsSetStep, definition_key, planned}
use Rattle.play_world_laws.specs.Leading.{PlayLeadsTo}
use Rattle.play_world_laws.proofs.Announced.{left_same}
use Rattle.play_world_laws.proofs.Around.{change_here}
use Rattle.machine_laws.proofs.Fitting.{format_itself}
use Rattle.play_world_laws.proofs.ChangeEnds.{HasEnd, actor_there, end_inside, end_there, is_late_source, one_end, one_port}
use Rattle.play_world_laws.proofs.Formats.{alike_itself, fits_by}
use Rattle.play_world_laws.proofs.Joining.{none_without}
use Rattle.play_world_laws.proofs.One.{IsTurnedAt, actor_turned, turned}
use Rattle.play_world_laws.proofs.ChangedPorts.{port_else, port_here, set_port_else, set_port_here}
use Rattle.play_world_laws.proofs.Retuning.{IsRetuning, disabled, later_half, quiet_end, retuned_turn, turn}
use Rattle.play_world_laws.proofs.Standing.{state_is}

-- ---- the port's state

set_state : (o : Bool) (k : Change) (link : Link) → IsSetStep o k.step → unheld (state_by o k link) ≡ state_by o (conducted k) link
set_state true k link h = set_output_state k link true h
set_state false k link h = set_input_state k link false h

other_state : (o : Bool) (k : Change) (link : Link) → IsSetStep o k.step → state_by (not o) (conducted k) link ≡ state_by (not o) k link
other_state true k link h = sym (set_output_state k link false h)
other_state false k link h = sym (set_input_state k link true h) ∙ ap (λ (n : ℕ). unheld (state_by true (record k { step = n }) link)) h ∙ sym (ap (λ (n : ℕ). state_by true (record k { step = n }) link) h)

record IsSetting (o : Bool) (k : Change) : Type 0 where
  retuning : IsRetuning k.step
  next : is_set_at o (conducted k).step ≡ true
  others : is_set_at (not o) (conducted k).step ≡ is_set_at (not o) k.step
  before : is_set_at o k.step ≡ false
  unjoined : is_joined_at k.step ≡ false
  dropped : nat_le (conducted k).step 4 ≡ nat_le k.step 4
  joined : is_joined_at (conducted k).step ≡ false
  held : is_held_at o k.step ≡ o

setting_is : (o : Bool) (k : Change) → IsSetStep o k.step → IsSetting o k
setting_is true k h = record {
  retuning = (omega arith, omega arith);
  next = ap (λ (n : ℕ). is_set_at true (n + 1)) h;
  others = ap (λ (n : ℕ). is_set_at false (n + 1)) h ∙ sym (ap (is_set_at false) h);
  before = ap (is_set_at true) h;
  unjoined = ap is_joined_at h;
  dropped = ap (λ (n : ℕ). nat_le (n + 1) 4) h ∙ sym (ap (λ (n : ℕ). nat_le n 4) h);
  joined = ap (λ (n : ℕ). is_joined_at (n + 1)) h;
  held = ap (is_held_at true) h;
}
setting_is false k h = record {
  retuning = (omega arith, omega arith);
  next = ap (λ (n : ℕ). is_set_at false (n + 1)) h;
  others = ap (λ (n : ℕ). is_set_at true (n + 1)) h ∙ sym (ap (is_set_at true) h);
  before = ap (is_set_at false) h;
  unjoined = ap is_joined_at h;
  dropped = ap (λ (n : ℕ). nat_le (n + 1) 4) h ∙ sym (ap (λ (n : ℕ). nat_le n 4) h);
  joined = ap (λ (n : ℕ). is_joined_at (n + 1)) h;
  held = refl;
}

bool_same : (b c : Bool) → b ≡ c → same_bool b c ≡ true
bool_same true c e = sym e
bool_same false c e = ap not (sym e)

same_direction : (b c : Bool) → same_bool b c ≡ true → b ≡ c
same_direction true c h = sym h
same_direction false true h = absurd cc
same_direction false false h = refl

-- a file that a late source has is within the limits
within_file : (kind : Kind) (port : Format) (file : Option Attached) → is_late kind ≡ true → ((f : Attached) → file ≡ Some f → may_have kind port f ≡ true) → is_within_limits (file_format file) ≡ true
within_file kind port None l h = refl
within_file kind port (Some (To n)) l h = refl
within_file kinds.Late port (Some (From format frames)) l h =
    let a = both_of (is_source kinds.Late && not (is_wrong_format kinds.Late port format)) (not (is_too_large frames format)) (h (From format frames) refl) in
    let b = is_not (is_auto format || not (is_within_limits format)) a.0 in
    either (is_within_limits format) (λ t. t) (λ f. let z : true ≡ false = sym (or_last (is_auto format) (not (is_within_limits format)) (ap not f)) ∙ b in absurd cc)
  where
    or_last : (u v : Bool) → v ≡ true → (u || v) ≡ true
    or_last true v e = refl
    or_last false v e = e
within_file kinds.Source port (Some (From format frames)) l h = absurd cc
within_file kinds.Decoder port (Some (From format frames)) l h = absurd cc
within_file kinds.Alaw port (Some (From format frames)) l h = absurd cc
within_file kinds.Mulaw port (Some (From format frames)) l h = absurd cc
within_file kinds.Gain port (Some (From format frames)) l h = absurd cc
within_file (kinds.Mixer n) port (Some (From format frames)) l h = absurd cc
within_file (kinds.Splitter n) port (Some (From format frames)) l h = absurd cc
within_file kinds.Sink port (Some (From format frames)) l h = absurd cc

-- ---- the component whose port is set

module _ (x : PlayCast) (recent : ℕ) (p : Play) (w : World) (W : IsPlayWorld x recent p w) (l : ℕ) (C : CanAct (x.cast).layout p (Act.Conduct l)) (o : Bool) (is : IsSetStep o (p.change l).step) (a : Component)
    (e : slice_get w.components (script_place x.cast (component_at (x.cast).layout o l)) ≡ Some a) where
  abbrev c : ℕ
  c = component_at (x.cast).layout o l

  abbrev q : Play
  q = acted (x.cast).layout (Act.Conduct l) p

  abbrev k : Change
  k = p.change l

  abbrev port : ℕ
  port = port_number x.cast o l

  abbrev i : ℕ
  i = script_place x.cast c

  abbrev F : Format
  F = x.format l

  S : IsSetting o k
  S = setting_is o k is

  A : IsActorAt x recent p w c a
  A = W.actors c a (end_inside x recent p w W o l C.below) e

  abbrev pub E : HasEnd x p l o a
  E = end_there x recent p w W o l c a C.below refl e

  abbrev pub y : Port
  y = E.port

  abbrev link : Link
  link = link_to x.cast l (end_of_link x.cast (not o) l)

  -- the format is within the limits, and a frame of it fits a header
  within : is_within_limits F ≡ true
  within =
      let g = actor_there x recent p w (giver_of x.cast l) W (end_inside x recent p w W true l C.below) in
      let O : IsOutput ((x.cast).layout).network (giver_of x.cast l) l = record { below = C.below; given_by = refl } in
      let late : is_late (g.0).settings.kind ≡ true = (g.2).late l O ∙ C.late in
      let I = (parts_of w W.sound).components (script_place x.cast (giver_of x.cast l)) g.0 g.1 in
      ap is_within_limits (sym ((g.2).late_format l O C.late)) ∙ within_file (g.0).settings.kind (file_port_format g.0) (g.0).file late I.file

  holds_frame : frame_bytes_of F ≤ (x.cast).size l
  holds_frame =
      let u : frame_bytes_of F ≡ (x.cast).unit l = (W.formats l C.below C.late).0 in
      let f = (W.cast_is).fits l C.below in
      let n = (((W.cast_is).layout).network).fits l C.below in
      let d = div-mul-le_self ((x.cast).size l) ((x.cast).unit l) in
      let m : (x.cast).unit l ≤ (x.cast).size l / (x.cast).unit l * (x.cast).unit l = at_least ((x.cast).size l / (x.cast).unit l) ((x.cast).unit l) (omega arith) in
      omega arith
    where
      at_least : (n u : ℕ) → 0 < n → u ≤ n * u
      at_least zero u h = absurd (omega arith)
      at_least (suc n) u h = grind arith

  abbrev D : PortDefinition
  D = planned x o l

  good : is_definition_of (is_input a.settings.kind port) D ≡ true
  good =
      let I = (parts_of w W.sound).components i a e in
      let P = definition_parts (is_input a.settings.kind port) y.setting.definition ((I.settings port y.setting (port_parts a port y E.there).setting).0) in
      let n = (E.end).count in
      let s = (E.end).size in
      let d : not o ≡ is_input a.settings.kind port = sym (E.end).direction ∙ same_direction y.setting.definition.input (is_input a.settings.kind port) P.direction in
      let count : is_between 1 32 D.count ≡ true = (let lc = P.least_count in let mc = P.most_count in rw (le-leb 1 D.count (omega arith), le-leb D.count 32 (omega arith)) refl) in
      let size : is_between 1 4096 D.size ≡ true = (let ls = P.least_size in let ms = P.most_size in rw (le-leb 1 D.size (omega arith), le-leb D.size 4096 (omega arith)) refl) in
      rw (within, count, size, le-leb (frame_bytes_of F) D.size holds_frame, bool_same (not o) (is_input a.settings.kind port) d) refl

  -- ---- its settings then

  abbrev setting : PortSetting
  setting = record y.setting { definition = D }

  abbrev settings : Settings
  settings = with_setting port setting a.settings

  setting_there : slice_get a.settings.ports port ≡ Some y.setting
  setting_there = (port_parts a port y E.there).setting

  pub changed_is : changed_by port (params.Port D) a.settings ≡ settings
  changed_is = ap (λ (s : PortSetting). with_setting port (record s { definition = D }) a.settings) (get_or_from_slice_get a.settings.ports port y.setting _ setting_there)

  -- a late source has no input
  no_input : (s : Bool) → o ≡ s → s ≡ true → (m : ℕ) → IsInput ((x.cast).layout).network c m → ⊥
  no_input true s t m I =
      let g : giver_of x.cast l ≡ c = subst (λ (v : Bool). component_at (x.cast).layout v l ≡ c) s refl in
      let r = one_end x recent p w W l C.below C.late c g a e A false m I.below I.taken_by in
      let z : false ≡ true = r.1 in
      cc
  no_input false s t m I = cc

  -- all its known formats go beside the new one
  beside_new : (n : ℕ) (r : PortSetting) → slice_get settings.ports n ≡ Some r → is_auto r.definition.format ≡ false → IsAlike a.settings.kind r.definition.format F
  beside_new n r f known = elim (at_set a.settings.ports port n setting r f) [
    | inl s ↦ subst (λ (z : PortSetting). IsAlike a.settings.kind z.definition.format F) (sym s.1) (alike_itself a.settings.kind F)
    | inr s ↦ old o refl n r s.0 s.1 known
  ]
    where
      old : (v : Bool) → o ≡ v → (n : ℕ) (r : PortSetting) → n ≢ port → slice_get a.settings.ports n ≡ Some r → is_auto r.definition.format ≡ false → IsAlike a.settings.kind r.definition.format F
      old false v n r d f known = (A.set_for).beside l n r (record { below = C.below; taken_by = subst (λ (s : Bool). component_at (x.cast).layout s l ≡ c) v refl }) C.late f known
      old true v n r d f known =
          let g : giver_of x.cast l ≡ c = subst (λ (s : Bool). component_at (x.cast).layout s l ≡ c) v refl in
          let many = (((parts_of w W.sound).components i a e).whole).ports in
          let one : ports_in a.settings.kind ≡ 1 = ap ports_in (is_late_source x recent p w W l C.below C.late c g a e A) in
          let b = slice_get_within a.settings.ports n r f in
          let z : port ≡ 0 = one_port x recent p w W l C.below C.late c g a e A port y E.there in
          absurd (d (omega arith))

  set_for_now : IsSetFor x c settings
  set_for_now = record {
    fit = fits_by settings F beside_new;
    taken = (A.set_for).taken;
    beside = λ m n r I t f known. elim (at_set a.settings.ports port n setting r f) [
      | inl s ↦ subst (λ (z : PortSetting). IsAlike a.settings.kind z.definition.format (x.format m)) (sym s.1) (together_with o refl m I t)
      | inr s ↦ (A.set_for).beside m n r I t s.1 known
    ];
    together = (A.set_for).together;
  }
    where
      together_with : (v : Bool) → o ≡ v → (m : ℕ) → IsInput ((x.cast).layout).network c m → ((x.cast).layout).is_late m ≡ true → IsAlike a.settings.kind F (x.format m)
      together_with true v m I t = absurd (no_input true v refl m I)
      together_with false v m I t = (A.set_for).together l m (record { below = C.below; taken_by = subst (λ (s : Bool). component_at (x.cast).layout s l ≡ c) v refl }) I C.late t

  -- ---- it is accepted

  supported : is_port_format a.settings.kind (is_input a.settings.kind port) F ≡ true
  supported =
      let I = (parts_of w W.sound).components i a e in
      let P = definition_parts (is_input a.settings.kind port) y.setting.definition ((I.settings port y.setting setting_there).0) in
      let d : is_input a.settings.kind port ≡ not o = sym (same_direction y.setting.definition.input (is_input a.settings.kind port) P.direction) ∙ (E.end).direction in
      ap (λ (s : Bool). is_port_format a.settings.kind s F) d ∙ by_side o refl
    where
      by_side : (v : Bool) → o ≡ v → is_port_format a.settings.kind (not v) F ≡ true
      by_side true v =
          let g : giver_of x.cast l ≡ c = subst (λ (s : Bool). component_at (x.cast).layout s l ≡ c) v refl in
          ap (λ (s : Kind). is_port_format s false F) (is_late_source x recent p w W l C.below C.late c g a e A)
      by_side false v =
          let t = (A.set_for).taken l (record { below = C.below; taken_by = subst (λ (s : Bool). component_at (x.cast).layout s l ≡ c) v refl }) C.late in
          ap (λ (s : Bool). s || (is_auto F && (true || is_late a.settings.kind))) t

  on_file : is_off_file a y F ≡ false
  on_file =
      let h : y.state.held ≡ o = ap (λ (s : PortState). s.held) (E.end).state ∙ S.held in
      ap (λ (s : Bool). s && not (same_format F (file_format a.file))) h ∙ by_side o refl
    where
      by_side : (v : Bool) → o ≡ v → (v && not (same_format F (file_format a.file))) ≡ false
      by_side false v = refl
      by_side true v =
          let O : IsOutput ((x.cast).layout).network c l = record { below = C.below; given_by = subst (λ (s : Bool). component_at (x.cast).layout s l ≡ c) v refl } in
          let f : file_format a.file ≡ F = A.late_format l O C.late in
          ap not (ap (same_format F) f ∙ format_itself F)

  not_large : overflows a.file F ≡ false
  not_large = by_side o refl
    where
      by_side : (v : Bool) → o ≡ v → overflows a.file F ≡ false
      by_side false v = A.roomy l (record { below = C.below; taken_by = subst (λ (s : Bool). component_at (x.cast).layout s l ≡ c) v refl }) C.late
      by_side true v =
          let g : giver_of x.cast l ≡ c = subst (λ (s : Bool). component_at (x.cast).layout s l ≡ c) v refl in
          reads a.file (λ f h. subst (λ (s : Kind). may_have s (file_port_format a) f ≡ true) (is_late_source x recent p w W l C.below C.late c g a e A) (((parts_of w W.sound).components i a e).file f h))
        where
          reads : (file : Option Attached) → ((f : Attached) → file ≡ Some f → may_have kinds.Late (file_port_format a) f ≡ true) → overflows file F ≡ false
          reads None h = refl
          reads (Some (From format frames)) h = refl
          reads (Some (To n)) h = let z : false ≡ true = h (To n) refl in absurd cc

  open_format : is_auto y.setting.definition.format ≡ true
  open_format = (E.end).known ∙ ap not (ap (λ (s : Bool). not s || is_set_at o k.step) C.late ∙ S.before)

  key_port : y.key.port ≡ port
  key_port = ap (λ (z : PortKey). z.port) (port_parts a port y E.there).key

  free : is_format_fixed a y D ≡ false
  free =
      let keeps : keeps_format a y ≡ false = none_kept y.state.held (is_auto y.setting.definition.format) (is_some a.file || not (is_settable a)) open_format in
      let fit : would_fit a y.key.port D ≡ true = ap (λ (n : ℕ). fits (changed_by n (params.Port D) a.settings)) key_port ∙ (ap fits changed_is ∙ set_for_now.fit) in
      none_of_four (is_off_file a y D.format) (keeps_format a y && not (same_format D.format y.setting.definition.format)) (not (is_settable a) && not (would_fit a y.key.port D)) (overflows a.file D.format)
      on_file (ap (λ (s : Bool). s && not (same_format D.format y.setting.definition.format)) keeps) (fit_by (is_settable a) (would_fit a y.key.port D) fit) not_large
    where
      none_kept : (h u r : Bool) → u ≡ true → (not h && not u && r) ≡ false
      none_kept true u r e = refl
      none_kept false u r e = rw e refl

      fit_by : (s t : Bool) → t ≡ true → (not s && not t) ≡ false
      fit_by true t e = refl
      fit_by false t e = rw e refl

      none_of_four : (b d f g : Bool) → b ≡ false → d ≡ false → f ≡ false → g ≡ false → any_of (b ∷ d ∷ f ∷ g ∷ []) ≡ false
      none_of_four b d f g h i j m = rw (h, i, j, m) refl

  loose : is_fixed (seen w.headers) a y ≡ false
  loose =
      let j : is_joined y ≡ false = ap (λ (t : PortState). is_some t.link) (E.end).state ∙ ap (λ (t : Bool). is_some (if t then Some link else None)) S.unjoined in
      let h : has_no_header (seen w.headers) y ≡ true = unmade_by (seen w.headers) y (end_of_link x.cast o l) 0 (E.end).key (none_without x recent p w W l C.below C.late S.unjoined o) in
      let n : y.state.enabled ≡ false = ap (λ (t : PortState). t.enabled) (E.end).state ∙ ap is_enabled_at (disabled x recent p w W l C S.retuning o) in
      rw (j, h, n) refl

  valid : is_invalid a.state ≡ false
  valid =
      let T = (turn x recent p w W l C S.retuning).up in
      let two = T.0 in
      let four = T.1 c (end_inside x recent p w W o l C.below) in
      ap is_invalid (state_is x recent p w c a A ∙ (λ t. state_at (two t) (four t)))

  in_ports : nat_lt port (ports_in a.settings.kind) ≡ true
  in_ports =
      let many = (((parts_of w W.sound).components i a e).whole).ports in
      let b = slice_get_within a.settings.ports port y.setting setting_there in
      lt-ltb port (ports_in a.settings.kind) (omega arith)

  pub set_accepted : set_parameter_refusal (look w).headers a (definition_key port) (params.Port D) ≡ None
  set_accepted = rw (valid, in_ports, good, supported, E.there, free, loose) refl

  -- ---- the component and the world

  abbrev state : PortState
  state = unheld y.state

  abbrev pub b : Component
  b = with_port port state (record a { settings = settings })

  pub set_is : with_value (definition_key port) (params.Port D) a ≡ b
  set_is =
      ap (λ (r : Option Port). unheld_at r (record a { settings = changed_by port (params.Port D) a.settings })) E.there
      ∙ ((λ t. with_port (key_port t) state (record a { settings = changed_is t })))

  abbrev pub v : World
  v = with_component i b w

  sound : Sound v
  sound = subst (λ (u : Component). Sound (with_component i u w)) set_is (sound_set w i a (definition_key port) (params.Port D) W.sound e set_accepted)

  set_now : is_set (x.cast).layout q o l ≡ true
  set_now = ap (λ (s : Bool). not s || is_set_at o (q.change l).step) C.late ∙ (ap (λ (u : Change). is_set_at o u.step) (change_here l conducted p) ∙ S.next)

  set_end : IsEndAt x q l o (end_of_link x.cast o l) (end_of_link x.cast (not o) l) (record y { setting = setting; state = state })
  set_end =
      let f = W.formats l C.below C.late in
      record {
        key = (E.end).key;
        state = ap unheld (E.end).state ∙ (set_state o k link is ∙ sym (ap (λ (u : Change). state_by o u link) (change_here l conducted p)));
        direction = refl;
        count = refl;
        size = refl;
        known = f.1 ∙ sym (ap not set_now);
        unit = λ _. f.0;
        format = λ _ h. refl;
      }

  set_at_end : IsTurnedAt x recent l p l conducted w v o c a b y (record y { setting = setting; state = state })
  set_at_end = record {
    below = C.below;
    late = C.late;
    inside = end_inside x recent p w W o l C.below;
    at = refl;
    there = e;
    components = refl;
    headers = refl;
    made = refl;
    units = refl;
    streams = refl;
    given = λ m g. refl;
    kind = refl;
    works = λ j. refl;
    others = λ j m. port_else (record a { settings = settings }) j port state m ∙ set_port_else a j port setting m;
    port = port_here (record a { settings = settings }) port state (record y { setting = setting }) (set_port_here a port setting y E.there);
    before = E.there;
    end = set_end;
    preference = refl;
    quiet = quiet_end x recent p w W l C S.retuning (not o);
    state = other_state o k (link_to x.cast l (end_of_link x.cast o l)) is;
    set = S.others;
    fewer = left_same x p q l refl refl (ap (λ (u : Change). nat_le u.step 4) (change_here l conducted p) ∙ S.dropped);
    joined = λ h. let z : true ≡ false = sym h ∙ S.unjoined in absurd cc;
    half = later_half x recent p w W l C S.retuning;
  }

  pub set_plays : IsPlayWorld x l q v
  set_plays = turned x recent l p l conducted w v o c a b y (record y { setting = setting; state = state }) W set_at_end (turn x recent p w W l C S.retuning).latest (act_reaches (x.cast).layout p (Act.Conduct l) W.reached C) sound
      (actor_turned x recent l p l conducted w v c a b refl (retuned_turn x recent p w W l C S.retuning o a e v refl settings b.ports refl set_for_now) A)

-- ---- the call

set_so : (r : Option OmxError) (result : Result (Unit {0}) OmxError) (w u v : World) → r ≡ None → Answers r result w v (λ _. ClosesTo u v) → (result ≡ Ok tt) × ClosesTo u v
set_so None (Ok t) w u v n h = (refl, h)
set_so None (Err t) w u v n h = absurd h
set_so (Some t) result w u v n h = absurd cc

pub set_leads : (x : PlayCast) (recent : ℕ) (p : Play) (w : World) (l : ℕ) (o : Bool) (h : Handle) (result : Result (Unit {0}) OmxError) (v : World) → IsPlayWorld x recent p w → CanAct (x.cast).layout p (Act.Conduct l) → IsSetStep o (p.change l).step
    → Names x.cast w (component_at (x.cast).layout o l) h → SetParameter w h (definition_key (port_number x.cast o l)) (params.Port (planned x o l)) result v
    → (result ≡ Ok tt) × PlayLeadsTo x l (acted (x.cast).layout (Act.Conduct l) p) v
set_leads x recent p w l o h result v W C is N s =
    let c : ℕ = component_at (x.cast).layout o l in
    let i : ℕ = script_place x.cast c in
    let key : ParamKey = definition_key (port_number x.cast o l) in
    let value : Param = params.Port (planned x o l) in
    let a = actor_there x recent p w c W (end_inside x recent p w W o l C.below) in
    let u : World = with_component i (with_value key value a.0) w in
    let r = resolved plain w h result v (λ i d. Answers (set_parameter_refusal (look w).headers d key value) result w v (λ _. ClosesTo (with_component i (with_value key value d) w) v)) i a.0 N a.1 s in
    let t = set_so (set_parameter_refusal (look w).headers a.0 key value) result w u v (set_accepted x recent p w W l C o is a.0 a.1) r in (
      t.0,
      record {
        effect = u;
        play = subst (λ (z : Component). IsPlayWorld x l (acted (x.cast).layout (Act.Conduct l) p) (with_component i z w)) (sym (set_is x recent p w W l C o is a.0 a.1)) (set_plays x recent p w W l C o is a.0 a.1);
        closes = t.1;
      },
    )
