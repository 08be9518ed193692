-- A component comes, and leaves.
use Rattle.std.proofs.Common.{◌≡◌, inl, inr, ℕ, zero, suc, ◌+◌, ◌<◌, Bool, true, false, not, ◌||◌, List, [], ◌∷◌, ◌++◌, remove, replicate, slice_get, is_some, Option, Some, None, option_map, find, sum_by, refl, sym, ◌∙◌, ap, subst, lt-ltb, le-ltb, eqb-true, arith}
use Rattle.std.specs.List.{list_any, AllByRecursion}
use Rattle.std.proofs.lemmas.List.{length-replicate}
use Rattle.std.proofs.lemmas.List.Elements.{All-replicate}
use Rattle.std.proofs.lemmas.List.Sums.{sum_by-cons}
use Rattle.std.proofs.lemmas.Bool.{cases_eq}
use Rattle.omx_types.specs.declared.handle.Handle.{Handle}
use Rattle.omx_types.specs.declared.format.Format.{Format}
use Rattle.omx_types.specs.declared.kind.Kind.{Kind}
use Rattle.omx_types.specs.declared.kind.Kind.TheVariants.{Source, Decoder, Alaw, Mulaw, Gain, Mixer, Splitter, Sink, Late}
use Rattle.il_machine.specs.declared.port.Port.{Port}
use Rattle.il_machine.specs.declared.port.PortSetting.{PortSetting}
use Rattle.il_machine.specs.declared.header.Owner.TheVariants as owners
use Rattle.il_machine.specs.States.{is_loaded, is_invalid}
use Rattle.il_machine.specs.Kinds.{named_kinds, has_name, kind_of, inputs_of, outputs_of, ports_in, is_input, is_late, is_format_of, is_port_format}
use Rattle.il_machine.specs.Settings.{IsSized, default_setting, default_settings, is_definition_of}
use Rattle.il_machine.specs.World.{Component, HeaderRecord, World, fresh, fresh_port, fresh_stream, ports_of, port_of}
use Rattle.il_machine.specs.Headers.{Seen, find_header, count_headers, weight, is_for, is_notice_of, is_work_of}
use Rattle.il_machine.specs.Look.{look}
use Rattle.il_machine.specs.Ports.{is_joined, has_no_header}
use Rattle.il_machine.specs.Room.{port_reserve}
use Rattle.il_machine.specs.Due.{each_port}
use Rattle.il_machine.specs.Components.{with_new_component, free_refusal, without_component}
use Rattle.il_machine.specs.Sound.{Sound, IsSound, IsLawfulSetting, IsMadeFor, IsOwnedSo, IsUnitSound, port_at}
use Rattle.il_machine.proofs.Wholes.{whole_default}
use Rattle.machine_laws.proofs.Every.{at_push, push_there, at_remove, remove_else, at_replicas, at_two_replicas, found_one, all_pass, none_passes}
use Rattle.machine_laws.proofs.Keys.{there_is}
use Rattle.machine_laws.proofs.Lookups.{rises_at, rising_push, rising_remove, port_at_is, has_port, port_parts}
use Rattle.machine_laws.proofs.PortChanges.{tied_new, tied_gone}
use Rattle.machine_laws.proofs.Works.{worked_at, works_remove}
use Rattle.machine_laws.proofs.Units.{if_held, resources_of, resources_push, resources_remove}
use Rattle.machine_laws.proofs.Parts.{Parts, ports_in_list, parts_of, sound_from}
use Rattle.machine_laws.proofs.Headers.{noticed_at, work_is, worker_there}
use Rattle.machine_laws.proofs.Accepting.{passed, not_either, not_not}
use Rattle.machine_laws.proofs.ClientHeaders.{unlinked}
use Rattle.machine_laws.proofs.Listed.{weighs_one}
use Rattle.machine_laws.proofs.Notices.{notice_is}

-- ---- the kinds of the table

sized_rows : AllByRecursion (λ row. IsSized row.1) named_kinds
sized_rows = (
  tt,
  (
    tt,
    (
      tt,
      (
        tt,
        (
          tt,
          (
            tt,
            (
              (omega arith, omega arith),
              (
                (omega arith, omega arith),
                (
                  (omega arith, omega arith),
                  (
                    (omega arith, omega arith),
                    (
                      (omega arith, omega arith),
                      (
                        (omega arith, omega arith),
                        (
                          (omega arith, omega arith),
                          (
                            (omega arith, omega arith),
                            (
                              (omega arith, omega arith),
                              (
                                (omega arith, omega arith),
                                (
                                  (omega arith, omega arith),
                                  (
                                    (omega arith, omega arith),
                                    (
                                      (omega arith, omega arith),
                                      (
                                        (omega arith, omega arith),
                                        (tt, tt),
                                      ),
                                    ),
                                  ),
                                ),
                              ),
                            ),
                          ),
                        ),
                      ),
                    ),
                  ),
                ),
              ),
            ),
          ),
        ),
      ),
    ),
  ),
)

mapped_row : (o : Option (List ℕ × Kind)) (kind : Kind) → option_map (λ row. row.1) o ≡ Some kind → (row : List ℕ × Kind) × (o ≡ Some row) × (row.1 ≡ kind)
mapped_row None kind e = absurd cc
mapped_row (Some row) kind e = (row, refl, cc)

pub kind_sized : (name : List ℕ) (kind : Kind) → kind_of name ≡ Some kind → IsSized kind
kind_sized name kind e =
    let r = mapped_row (find (has_name name) named_kinds) kind e in
    subst IsSized r.2 (found_one (λ row. IsSized row.1) (has_name name) named_kinds r.0 sized_rows r.1)

-- ---- a component that was just made

default_definition : (kind : Kind) (input : Bool) → is_definition_of input (default_setting kind input).definition ≡ true
default_definition Source true = refl
default_definition Source false = refl
default_definition Decoder true = refl
default_definition Decoder false = refl
default_definition Alaw true = refl
default_definition Alaw false = refl
default_definition Mulaw true = refl
default_definition Mulaw false = refl
default_definition Gain true = refl
default_definition Gain false = refl
default_definition (Mixer n) true = refl
default_definition (Mixer n) false = refl
default_definition (Splitter n) true = refl
default_definition (Splitter n) false = refl
default_definition Sink true = refl
default_definition Sink false = refl
default_definition Late true = refl
default_definition Late false = refl

input_format : (kind : Kind) → 0 < inputs_of kind → is_format_of kind true (default_setting kind true).definition.format ≡ true
input_format Source h = absurd (omega arith)
input_format Decoder h = refl
input_format Alaw h = refl
input_format Mulaw h = refl
input_format Gain h = refl
input_format (Mixer n) h = refl
input_format (Splitter n) h = refl
input_format Sink h = refl
input_format Late h = absurd (omega arith)

output_format : (kind : Kind) → 0 < outputs_of kind → is_format_of kind false (default_setting kind false).definition.format ≡ true
output_format Source h = refl
output_format Decoder h = refl
output_format Alaw h = refl
output_format Mulaw h = refl
output_format Gain h = refl
output_format (Mixer n) h = refl
output_format (Splitter n) h = refl
output_format Sink h = absurd (omega arith)
output_format Late h = refl

-- a port may have a format of its kind
kind_format : (kind : Kind) (input : Bool) (format : Format) → is_format_of kind input format ≡ true → is_port_format kind input format ≡ true
kind_format kind input format h = rw h refl

default_lawful : (kind : Kind) (port : ℕ) (setting : PortSetting) → slice_get (default_settings kind).ports port ≡ Some setting → IsLawfulSetting (default_settings kind) port setting
default_lawful kind port setting e = elim (at_two_replicas (inputs_of kind) (outputs_of kind) port (default_setting kind true) (default_setting kind false) setting e) [
  | inl h ↦ let t : is_input kind port ≡ true = lt-ltb port (inputs_of kind) h.0 in rw (t, h.1) (default_definition kind true, kind_format kind true (default_setting kind true).definition.format (input_format kind (omega (arith, h.0))))
  | inr h ↦ let f : is_input kind port ≡ false = le-ltb port (inputs_of kind) h.0 in rw (f, h.2) (default_definition kind false, kind_format kind false (default_setting kind false).definition.format (output_format kind (omega (arith, h.0, h.1))))
]

fresh_places : (n : ℕ) → sum_by port_reserve (replicate n fresh_port) ≡ 0
fresh_places zero = refl
fresh_places (suc n) = let s = sum_by-cons port_reserve fresh_port (replicate n fresh_port) in let i = fresh_places n in omega arith

sound_fresh : (h : Handle) (kind : Kind) → IsSized kind → IsSound (fresh h kind)
sound_fresh h kind z = record {
  whole = whole_default kind z;
  ports = length-replicate (ports_in kind) fresh_port;
  settings = default_lawful kind;
  fit = refl;
  file = λ x e. absurd cc;
  cause = λ p e. absurd cc;
  mark = λ t. absurd cc;
  commands = omega arith;
  room = let p = fresh_places (ports_in kind) in omega arith;
}

-- a new component's ports are joined to none
fresh_alone : (h : Handle) (kind : Kind) (index : ℕ) (p : Port) → port_of (fresh h kind) index ≡ Some p → p.state.link ≡ None
fresh_alone h kind index p e =
    let is = port_parts (fresh h kind) index p e in
    let s = at_replicas (ports_in kind) index fresh_port p.state is.state in
    rw s.0 refl

-- no header is in a note of a component that isn't there yet
none_noticed : (cs : List Component) (hs : List HeaderRecord) (numbered made : ℕ) → Parts cs hs numbered made → (m : ℕ) → weight (noticed_at numbered m hs) ≡ 0
none_noticed cs hs numbered made P m = elim (cases_eq (weight (noticed_at numbered m hs)) 0) [
  | inl z ↦ z
  | inr n ↦
      let r = weighs_one (find_header m hs) (λ s. is_notice_of numbered s.owner) (omega arith) in
      let o : (r.0).state.owner ≡ owners.Notice numbered = notice_is numbered (r.0).state.owner r.2 in
      let S = P.tied.placed m r.0 r.1 in
      let O : IsOwnedSo (r.0).state (owners.Notice numbered) = rw o at S.owner in
      let p = there_is (port_at (r.0).state.port cs) (IsMadeFor (r.0).state.peer) S.port in
      let h = has_port (r.0).state.port cs p.0 p.1 in
      let b = rises_at 0 numbered h.place cs h.component P.rising h.there in
      absurd (omega (arith, b.1, h.number, O.2))
]

-- nor in its work
none_worked : (cs : List Component) (hs : List HeaderRecord) (numbered made : ℕ) → Parts cs hs numbered made → (m : ℕ) → weight (worked_at numbered m hs) ≡ 0
none_worked cs hs numbered made P m = elim (cases_eq (weight (worked_at numbered m hs)) 0) [
  | inl z ↦ z
  | inr n ↦
      let r = weighs_one (find_header m hs) (λ s. is_work_of numbered s.owner) (omega arith) in
      let o : (r.0).state.owner ≡ owners.Work numbered = work_is numbered (r.0).state.owner r.2 in
      let c = worker_there cs hs numbered made P numbered m r.0 r.1 o in
      let b = rises_at 0 numbered c.0 cs c.1 P.rising c.2 in
      absurd (omega (arith, b.1, c.3))
]

-- a new component holds nothing, and waits for nothing
units_fresh : (waits : ℕ) (h : Handle) (kind : Kind) → IsUnitSound waits (fresh h kind)
units_fresh waits h kind = record {
  holds = λ t. absurd cc;
  gives = λ t. absurd cc;
  waiting = λ t. absurd cc;
  numbered = λ n e. absurd cc;
  way = λ p e. absurd cc;
  held = if_held (is_late kind) (replicate (ports_in kind) fresh_port) (All-replicate (λ p. p.held ≡ true → is_late kind ≡ true) (ports_in kind) fresh_port (λ t. absurd cc));
  inputs = length-replicate (inputs_of kind) false;
}

pub sound_new : (w : World) (h : Handle) (kind : Kind) → Sound w → h.generation ≡ w.numbered → IsSized kind → Sound (with_new_component h kind w)
sound_new w h kind S n z =
    let P = parts_of w S in
    let cs : List Component = w.components in
    let c : Component = fresh h kind in
    let R = rising_push 0 w.numbered cs c P.rising n in
    sound_from (with_new_component h kind w) (record {
      rising = R;
      components = λ i x e. elim (at_push cs i c x e) [ inl a ↦ P.components i x a | inr a ↦ rw a (sound_fresh h kind z) ];
      tied = tied_new (ports_in_list cs) (ports_in_list (cs ++ c ∷ [])) w.headers P.tied P.once
          (λ key p e.
          let a = has_port key cs p e in
          port_at_is (w.numbered + 1) a.place key (cs ++ c ∷ []) a.component R (push_there cs a.place c a.component a.there) a.number ∙ a.port)
          (λ key p e none.
          let a = has_port key (cs ++ c ∷ []) p e in
          let is = port_parts a.component key.port p a.port in
          let num = a.number in
          let k : p.key ≡ key = is.key ∙ (λ i. record { component = num i; port = key.port }) in
          elim (at_push cs a.place c a.component a.there) [
            | inl t ↦ let b = port_at_is w.numbered a.place key cs a.component P.rising t a.number ∙ a.port in absurd cc
            | inr t ↦ (k, fresh_alone h kind key.port p (subst (λ (y : Component). port_of y key.port ≡ Some p) t a.port))
          ]);
      noted = λ i x e. elim (at_push cs i c x e) [
        | inl a ↦ P.noted i x a
        | inr a ↦ rw (a, n) (λ m. sym (none_noticed cs w.headers w.numbered w.made P m))
      ];
      works = record {
        claimed = λ i x e. elim (at_push cs i c x e) [
          | inl a ↦ (P.works).claimed i x a
          | inr a ↦ rw (a, n) (λ m. sym (none_worked cs w.headers w.numbered w.made P m))
        ];
        made = λ i x work e f. elim (at_push cs i c x e) [
          | inl a ↦ (P.works).made i x work a f
          | inr a ↦ let z : x.work ≡ None = ap (λ (y : Component). y.work) a in absurd cc
        ];
      };
      lawful = λ i x work e f. elim (at_push cs i c x e) [
        | inl a ↦ P.lawful i x work a f
        | inr a ↦ let z : x.work ≡ None = ap (λ (y : Component). y.work) a in absurd cc
      ];
      once = P.once;
      below = P.below;
    }) (resources_push w.waits w.units cs w.streams c (fresh_stream w.numbered) (sym n) (units_fresh w.waits h kind) refl refl (resources_of w S))

-- ---- a component that leaves

pub free_handle_passes : (headers : Seen) (c : Component) → free_refusal headers c ≡ None → (each_port c (has_no_header headers) ≡ true) × (list_any is_joined (ports_of c) ≡ false)
free_handle_passes headers c h =
    let a = (passed (not (is_loaded c.state || is_invalid c.state) || (is_some c.pending || (not (each_port c (has_no_header headers)) || (list_any is_joined (ports_of c) || (is_some c.work || (c.client_out || false)))))) _ _ h).0 in
    let b = not_either (not (is_loaded c.state || is_invalid c.state)) _ a in
    let d = not_either (is_some c.pending) _ b.1 in
    let e = not_either (not (each_port c (has_no_header headers))) _ d.1 in
    let f = not_either (list_any is_joined (ports_of c)) _ e.1 in
    (not_not (each_port c (has_no_header headers)) e.0, f.0)

pub sound_removed : (w : World) (i : ℕ) (c : Component) → Sound w → slice_get w.components i ≡ Some c → free_refusal (look w).headers c ≡ None → Sound (without_component i c w)
sound_removed w i c S t h =
    let P = parts_of w S in
    let cs : List Component = w.components in
    let F = free_handle_passes (look w).headers c h in
    let R = rising_remove 0 w.numbered i cs P.rising in
    sound_from (without_component i c w) (record {
      rising = R;
      components = λ j x e. let a = at_remove cs i j x e in P.components a.0 x a.2;
      tied = tied_gone (ports_in_list cs) (ports_in_list (remove cs i)) w.headers P.tied
          (λ key p e.
          let a = has_port key (remove cs i) p e in
          let b = at_remove cs i a.place a.component a.there in
          port_at_is w.numbered b.0 key cs a.component P.rising b.2 a.number ∙ a.port)
          (λ key p e.
          let a = has_port key cs p e in
          elim (cases_eq a.place i) [
            | inl q ↦
                let x : Some a.component ≡ Some c = sym a.there ∙ (ap (slice_get cs) q ∙ t) in
                let s : a.component ≡ c = cc in
                let f : port_of c key.port ≡ Some p = rw (← s) a.port in
                let u = all_pass (has_no_header (look w).headers) (ports_of c) key.port p F.0 f in
                let l = none_passes is_joined (ports_of c) key.port p F.1 f in
                inr (record { alone = unlinked p l; bare = eqb-true (count_headers (is_for p.key) w.headers) 0 u })
            | inr d ↦
                let b = remove_else cs i a.place a.component d a.there in
                inl (port_at_is w.numbered b.0 key (remove cs i) a.component R b.1 a.number ∙ a.port)
          ]);
      noted = λ j x e. let a = at_remove cs i j x e in P.noted a.0 x a.2;
      works = works_remove i cs w.headers P.works;
      lawful = λ j x work e f. let a = at_remove cs i j x e in P.lawful a.0 x work a.2 f;
      once = P.once;
      below = P.below;
    }) (resources_remove w.waits w.units w.numbered i cs w.streams c P.rising t (resources_of w S))
