-- A work comes back: its headers have landed, its notes are queued, and its component's part is as the step left it.
use Rattle.std.proofs.Common.{◌≡◌, inl, ℕ, zero, suc, ◌+◌, ◌≤◌, Bool, true, false, List, [], ◌∷◌, ◌++◌, length, map, set, slice_get, Option, Some, None, refl, sym, ◌∙◌, ap, subst, append-nil, arith}
use Rattle.std.proofs.lemmas.List.{length-map, length-take-le}
use Rattle.std.proofs.lemmas.List.Sums.{sum_by-append}
use Rattle.omx_types.specs.declared.command.Note.{Note}
use Rattle.omx_types.specs.declared.command.Event.TheVariants.{PortSettingsChanged}
use Rattle.omx_types.specs.declared.fault.PartFault.{PartFault}
use Rattle.part_api.specs.Terms.{Terms}
use Rattle.il_machine.specs.declared.port.Mark.{Mark}
use Rattle.il_machine.specs.declared.port.Port.{Port}
use Rattle.il_machine.specs.declared.port.PortState.{PortState}
use Rattle.il_machine.specs.Kinds.{inputs_of, is_late}
use Rattle.il_machine.specs.Settings.{same_format, formats_of}
use Rattle.il_machine.specs.World.{Component, HeaderRecord, Stream, Work, World, changed_at, number_of, port_of, stream_of, with_component, with_port, told}
use Rattle.il_machine.specs.Headers.{seen}
use Rattle.il_machine.specs.Parts.{file_format, terms_of}
use Rattle.il_machine.specs.Room.{events_in, used}
use Rattle.il_machine.specs.Census.{note_numbers, work_numbers}
use Rattle.il_machine.specs.Flow.{done_note}
use Rattle.il_machine.specs.Claims.{CarriedHeader}
use Rattle.il_machine.specs.Stepping.{WorkDone, ended_from, IsDoneOf}
use Rattle.il_machine.specs.Finishing.{Landing, Again, Onward, Noted, landing, tells_mark, mark_note, landing_note, notes_of_header, notes_of_headers, end_note, fault_note, tells_end, notes_after, part_by, gone_through, announced, announced_at, stepped_back, with_landed, finished_by, finished, all_landed, is_an_input}
use Rattle.il_machine.specs.Sound.{Sound, IsSound, IsUnitSound, IsPickedFor}
use Rattle.machine_laws.proofs.Every.{at_place, set_there}
use Rattle.machine_laws.proofs.Finding.{either}
use Rattle.machine_laws.proofs.Lookups.{port_at_is}
use Rattle.machine_laws.proofs.PortChanges.{kept_itself}
use Rattle.machine_laws.proofs.Units.{IsFair, held_fewer, resources_of, resources_as}
use Rattle.machine_laws.proofs.Parts.{ports_in_list, parts_of, sound_from}
use Rattle.machine_laws.proofs.Change.{sound_component}
use Rattle.machine_laws.proofs.Rooms.{costs, costs_same, lawful_of, sound_with, lawful_told, used_told}
use Rattle.machine_laws.proofs.Arriving.{state_there, used_with_port, lawful_with_port, change_let_go}
use Rattle.machine_laws.proofs.Values.{set_twice}
use Rattle.machine_laws.proofs.Attaching.{resources_streamed}
use Rattle.machine_laws.proofs.Shifting.{Shifted, shifted_none, parts_shifted}
use Rattle.machine_laws.proofs.Landing.{AreOf, done_of, numbers_of, length_of, made_of, numbers_append, shifted_in}

-- ---- room: what is queued had its places reserved

events_append : (xs ys : List Note) → events_in (xs ++ ys) ≡ events_in xs + events_in ys
events_append xs ys = sum_by-append _ xs ys

mark_events : (o : Option Mark) → events_in (mark_note o) ≤ 1
mark_events None = omega arith
mark_events (Some mark) = omega arith

no_event : (b : Bool) (n : ℕ) → events_in (done_note b n ∷ []) ≡ 0
no_event true n = refl
no_event false n = refl

landing_events : (l : Landing) (c : Component) (x : CarriedHeader) → events_in (landing_note l c x) ≡ 0
landing_events Again c x = refl
landing_events Onward c x = refl
landing_events Noted c x = no_event (is_an_input c x) x.header.number

header_events : (c : Component) (s : Stream) (done : WorkDone) (x : CarriedHeader) → events_in (notes_of_header c s done x) ≤ 1
header_events c s done x =
    let l = landing_events (landing c s done x) c x in
    either (tells_mark c s done x)
    (λ t. let a = events_append (mark_note x.header.mark) (landing_note (landing c s done x) c x) in let m = mark_events x.header.mark in rw t (omega arith))
    (λ f. rw f (omega arith))

headers_events : (c : Component) (s : Stream) (done : WorkDone) (xs : List CarriedHeader) → events_in (notes_of_headers c s done xs) ≤ length xs
headers_events c s done [] = omega arith
headers_events c s done (x ∷ xs) =
    let a = events_append (notes_of_header c s done x) (notes_of_headers c s done xs) in
    let b = header_events c s done x in
    let i = headers_events c s done xs in
    omega arith

end_events : (b : Bool) → events_in (end_note b) ≤ 1
end_events true = omega arith
end_events false = omega arith

fault_events : (o : Option PartFault) → events_in (fault_note o) ≤ 1
fault_events None = omega arith
fault_events (Some fault) = omega arith

after_events : (c : Component) (s : Stream) (done : WorkDone) → events_in (notes_after c s done) ≤ length done.headers + 2
after_events c s done =
    let a = events_append (notes_of_headers c s done done.headers ++ end_note (tells_end c done)) (fault_note done.fault) in
    let b = events_append (notes_of_headers c s done done.headers) (end_note (tells_end c done)) in
    let h = headers_events c s done done.headers in
    let e = end_events (tells_end c done) in
    let f = fault_events done.fault in
    omega arith

sound_back : (c : Component) (s : Stream) (done : WorkDone) (work : Work) → IsSound c → c.work ≡ Some work → AreOf work.headers done.headers → IsSound (stepped_back c s done)
sound_back c s done work S e A =
    let d : Component = stepped_back c s done in
    let k : costs d ≡ costs c = costs_same c d c.commands refl in
    let u : used c ≡ used (record c { work = Some work }) = ap (λ (o : Option Work). used (record c { work = o })) e in
    let n = events_append c.notes (notes_after c s done) in
    let l = length_of work.headers done.headers A in
    let v = after_events c s done in
    sound_with d (record { whole = S.whole; ports = S.ports; settings = S.settings; fit = S.fit; file = S.file; cause = S.cause; mark = S.mark; commands = S.commands }) (omega (arith, S.room))

-- ---- the part

ended_length : (t : Terms) (frames : ℕ) (headers : List CarriedHeader) (port count : ℕ) → length (ended_from t frames headers port count) ≡ count
ended_length t frames headers port zero = refl
ended_length t frames headers port (suc count) = ap suc (ended_length t frames headers (port + 1) count)

inputs_there : (c : Component) → IsSound c → length (terms_of c).inputs ≡ inputs_of c.settings.kind
inputs_there c S =
    let f : length (formats_of c.settings.ports) ≡ length c.settings.ports = length-map c.settings.ports (λ p. p.definition.format) in
    length-take-le (inputs_of c.settings.kind) (formats_of c.settings.ports) (omega (arith, f, (S.whole).ports))

part_inputs : (c : Component) (s : Stream) (done : WorkDone) (o : Option PartFault) → IsSound c → length c.part.ended_inputs ≡ inputs_of c.settings.kind → length (part_by c s done o).ended_inputs ≡ inputs_of c.settings.kind
part_inputs c s done None S e = ended_length (terms_of c) 0 done.headers 0 (length (terms_of c).inputs) ∙ inputs_there c S
part_inputs c s done (Some fault) S e = e

units_back : (waits : ℕ) (c : Component) (s : Stream) (done : WorkDone) → IsSound c → IsUnitSound waits c → IsUnitSound waits (stepped_back c s done)
units_back waits c s done S U = record { holds = U.holds; gives = U.gives; waiting = U.waiting; numbered = U.numbered; way = U.way; held = U.held; inputs = part_inputs c s done done.fault S U.inputs }

-- ---- a work of headers comes back

end_numbers : (b : Bool) → note_numbers (end_note b) ≡ []
end_numbers true = refl
end_numbers false = refl

fault_numbers : (o : Option PartFault) → note_numbers (fault_note o) ≡ []
fault_numbers None = refl
fault_numbers (Some fault) = refl

pub after_numbers : (c : Component) (s : Stream) (done : WorkDone) → note_numbers (notes_after c s done) ≡ note_numbers (notes_of_headers c s done done.headers)
after_numbers c s done =
    let h : List Note = notes_of_headers c s done done.headers in
    let a = numbers_append (h ++ end_note (tells_end c done)) (fault_note done.fault) in
    let b = numbers_append h (end_note (tells_end c done)) in
    a ∙ (rw (fault_numbers done.fault, append-nil (note_numbers (h ++ end_note (tells_end c done)))) (b ∙ rw (end_numbers (tells_end c done)) (append-nil (note_numbers h))))

sound_landed : (w : World) (i : ℕ) (c : Component) (work : Work) (done : WorkDone) (s : Stream) → Sound w → slice_get w.components i ≡ Some c → c.work ≡ Some work → AreOf work.headers done.headers
    → Sound (with_landed i c done s w)
sound_landed w i c work done s S t e A =
    let P = parts_of w S in
    let cs : List Component = w.components in
    let k : ℕ = number_of c in
    let d : Component = stepped_back c s done in
    let ks : List HeaderRecord = all_landed c s done done.headers w.headers in
    let U = (resources_of w S).each i c t in
    let there : (port : ℕ) (p : Port) → port_of c port ≡ Some p → port_of c port ≡ Some p = λ port p f. f in
    let n : work_numbers c.work ≡ map (λ x. x.header.number) done.headers = rw e (numbers_of work.headers done.headers A) in
    let Z : Shifted (ports_in_list cs) k w.headers (note_numbers c.notes) (map (λ x. x.header.number) done.headers) w.headers = rw n at (shifted_none cs w.headers w.numbered w.made i c P t) in
    let M = made_of w.headers k work.headers done.headers A (λ j p f. at_place (IsPickedFor (seen w.headers) k) work.headers j p ((P.works).made i c work t e) f) in
    let B = shifted_in (ports_in_list cs) c (λ port p f. sym (port_at_is w.numbered i (record { component = k; port = port }) cs c P.rising t refl) ∙ f) w.headers w.headers (note_numbers c.notes) s done done.headers Z M in
    let m : note_numbers c.notes ++ note_numbers (notes_of_headers c s done done.headers) ≡ note_numbers d.notes =
    ap (λ (l : List ℕ). note_numbers c.notes ++ l) (sym (after_numbers c s done)) ∙ sym (numbers_append c.notes (notes_after c s done)) in
    let D : Shifted (ports_in_list cs) k w.headers (note_numbers d.notes) [] ks = subst (λ (l : List ℕ). Shifted (ports_in_list cs) k w.headers l [] ks) m B in
    sound_from (with_landed i c done s w)
    (parts_shifted i cs w.headers ks w.numbered w.made c d P t D refl (λ x. kept_itself ks (port_of c x)) (sound_back c s done work (P.components i c t) e A) (λ x f. absurd cc))
    (resources_streamed (set cs i d) w.streams w.waits w.units k (gone_through done) (λ x. refl)
    (resources_as w.waits w.units i cs w.streams c d t refl refl refl (units_back w.waits c s done (P.components i c t) U) (resources_of w S)))

-- ---- an announcement comes back

abbrev pub without_its : Component → Component
without_its c = record c { work = None }

sound_idle : (w : World) (i : ℕ) (c : Component) (work : Work) → Sound w → slice_get w.components i ≡ Some c → c.work ≡ Some work → work.headers ≡ [] → Sound (with_component i (without_its c) w) × (used (without_its c) + 2 ≡ used c)
sound_idle w i c work S t e z =
    let P = parts_of w S in
    let cs : List Component = w.components in
    let d : Component = without_its c in
    let I = P.components i c t in
    let k : costs d ≡ costs c = costs_same c d c.commands refl in
    let u : used d + 2 ≡ used c = rw (e, z) (omega (arith, k)) in
    let J = sound_with d (record { whole = I.whole; ports = I.ports; settings = I.settings; fit = I.fit; file = I.file; cause = I.cause; mark = I.mark; commands = I.commands }) (omega (arith, I.room)) in
    let n : work_numbers c.work ≡ [] = rw (e, z) refl in
    let Z : Shifted (ports_in_list cs) (number_of c) w.headers (note_numbers c.notes) [] w.headers = rw n at (shifted_none cs w.headers w.numbered w.made i c P t) in
    let U = (resources_of w S).each i c t in
    let V : IsUnitSound w.waits d = record { holds = U.holds; gives = U.gives; waiting = U.waiting; numbered = U.numbered; way = U.way; held = U.held; inputs = U.inputs } in (
      sound_from (with_component i d w)
          (parts_shifted i cs w.headers w.headers w.numbered w.made c d P t Z refl (λ x. kept_itself w.headers (port_of c x)) J (λ x f. absurd cc))
          (resources_as w.waits w.units i cs w.streams c d t refl refl refl V (resources_of w S)),
      u,
    )

-- the port is held, and that its settings changed is told
abbrev pub now_held : Port → Component → Component
now_held p c = told (PortSettingsChanged p.key.port) (with_port p.key.port (record p.state { held = true }) c)

sound_held : (w : World) (i index : ℕ) (c : Component) (p : Port) → Sound w → slice_get w.components i ≡ Some c → c.work ≡ None → used c + 2 ≤ 256 → is_late c.settings.kind ≡ true → port_of c index ≡ Some p
    → Sound (with_component i (now_held p c) w)
sound_held w i index c p S t z l late f =
    let k : ℕ = p.key.port in
    let new : PortState = record p.state { held = true } in
    let d : Component = now_held p c in
    let I = (parts_of w S).components i c t in
    let U = (resources_of w S).each i c t in
    let at = state_there c index p f in
    let u = used_with_port k new p.state c at in
    let v = used_told (PortSettingsChanged k) (with_port k new c) in
    let J = sound_with d (lawful_told (PortSettingsChanged k) (with_port k new c) (lawful_with_port k new c (lawful_of c I))) (omega arith) in
    let F : IsFair 0 w.waits w.waits c d = record {
      keeps = record { kind = refl; weights = refl; count = (lawful_with_port k new c (lawful_of c I)).ports ∙ sym I.ports; work = refl };
      stays = λ work e. absurd cc;
      taken = held_fewer c d refl (λ h. h);
      waiting = λ n e. inl e;
      units = record { holds = U.holds; gives = U.gives; waiting = U.waiting; numbered = U.numbered; way = U.way; held = λ q m h. late; inputs = U.inputs };
    } in
    sound_component w i c d S t (change_let_go (PortSettingsChanged k) k new p.state c at refl) J F

sound_announced_at : (w : World) (i : ℕ) (c d : Component) (o : Option Port) → Sound (with_component i d w) → slice_get w.components i ≡ Some c → d.work ≡ None → used d + 2 ≤ 256 → is_late d.settings.kind ≡ true
    → port_of d 0 ≡ o → Sound (with_component i (announced_at o d) w)
sound_announced_at w i c d None S t z l late f = S
sound_announced_at w i c d (Some p) S t z l late f = either (same_format p.setting.definition.format (file_format d.file))
    (λ h. rw h S)
    (λ h.
    let T = sound_held (with_component i d w) i 0 d p S (set_there w.components i c d t) z l late f in
    rw h (subst (λ (cs : List Component). Sound (record w { components = cs })) (set_twice i w.components d (now_held p d)) T))

sound_announced : (w : World) (i : ℕ) (c : Component) (work : Work) → Sound w → slice_get w.components i ≡ Some c → c.work ≡ Some work → work.announces ≡ true → Sound (with_component i (announced c) w)
sound_announced w i c work S t e a =
    let L = (parts_of w S).lawful i c work t e in
    let x = L.announced a in
    let y = sound_idle w i c work S t e x.1 in
    let r = ((parts_of w S).components i c t).room in
    sound_announced_at w i c (without_its c) (port_of c 0) y.0 t refl (omega (arith, y.1)) x.0 refl

-- ---- both

sound_at_stream : (w : World) (i : ℕ) (c : Component) (work : Work) (done : WorkDone) (o : Option Stream) → Sound w → slice_get w.components i ≡ Some c → c.work ≡ Some work → AreOf work.headers done.headers
    → Sound (changed_at o w (λ s. with_landed i c done s w))
sound_at_stream w i c work done None S t e A = S
sound_at_stream w i c work done (Some s) S t e A = sound_landed w i c work done s S t e A

pub sound_finished : (w : World) (i : ℕ) (c : Component) (work : Work) (done : WorkDone) → Sound w → slice_get w.components i ≡ Some c → c.work ≡ Some work → IsDoneOf w c work done → Sound (finished i c done w)
sound_finished w i c work done S t e D =
    let P = parts_of w S in
    let goal : Sound (finished_by i c done (Some work) w) = either work.announces
    (λ a. rw a (sound_announced w i c work S t e a))
    (λ n.
    let A = done_of w c work done D n (λ j p f. at_place (IsPickedFor (seen w.headers) (number_of c)) work.headers j p ((P.works).made i c work t e) f) in
    rw n (sound_at_stream w i c work done (stream_of (number_of c) w) S t e A)) in
    subst (λ (o : Option Work). Sound (finished_by i c done o w)) (sym e) goal
