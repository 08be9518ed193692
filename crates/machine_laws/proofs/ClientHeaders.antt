-- Headers of client ports are made, unmade and handed in.
use Rattle.std.proofs.Common.{◌≡◌, inl, inr, ℕ, ◌<◌, ◌≤◌, Bool, true, false, not, ◌&&◌, ◌||◌, nat_eq, List, length, set, slice_get, Option, Some, None, is_some, refl, sym, ◌∙◌, ap, subst, arith}
use Rattle.std.proofs.lemmas.Bool.{eqb-false}
use Rattle.omx_types.specs.declared.state.State.TheVariants.{Idle}
use Rattle.omx_types.specs.declared.command.Event.TheVariants.{Error}
use Rattle.omx_types.specs.declared.error.OmxError.TheVariants as errors
use Rattle.il_machine.specs.declared.port.PortKey.{PortKey}
use Rattle.il_machine.specs.declared.port.Port.{Port}
use Rattle.il_machine.specs.declared.header.HeaderState.{HeaderState}
use Rattle.il_machine.specs.declared.header.Owner.TheVariants as owners
use Rattle.il_machine.specs.declared.header.Spot.TheVariants.{TodoBack}
use Rattle.il_machine.specs.States.{is_invalid, is_down, is_up}
use Rattle.il_machine.specs.World.{Component, HeaderRecord, World, port_of, with_component}
use Rattle.il_machine.specs.Headers.{seen, find_header, count_headers, is_for, loaded, empty_load, unloaded}
use Rattle.il_machine.specs.Look.{Look, look}
use Rattle.il_machine.specs.Ports.{is_input_port, accepting, is_populated, is_joined, is_going_to, is_at_rest}
use Rattle.il_machine.specs.Room.{room}
use Rattle.il_machine.specs.Buffers.{Held, load_in, allocate_refusal, use_refusal, is_bad_length, client_header, with_header, is_unpopulating, free_buffer_refusal, unpopulated, without_header, empty_refusal, fill_refusal, is_whole_frames, with_todo}
use Rattle.il_machine.specs.Sound.{Sound, IsSound, port_at}
use Rattle.machine_laws.proofs.Finding.{either}
use Rattle.machine_laws.proofs.Keys.{for_which, is_there}
use Rattle.machine_laws.proofs.Lookups.{port_there_at}
use Rattle.machine_laws.proofs.Parts.{parts_of, sound_from}
use Rattle.machine_laws.specs.Changes.{IsChange}
use Rattle.machine_laws.proofs.Change.{change_none, parts_changed, aside_there, resources_changed}
use Rattle.machine_laws.proofs.Units.{IsAside, aside_none, resources_of}
use Rattle.machine_laws.proofs.Headers.{is_set_aside, parts_put, parts_push, parts_without}
use Rattle.machine_laws.proofs.Rooms.{aside_told, sound_told, change_told}
use Rattle.machine_laws.proofs.Accepting.{passed, not_either, not_not, is_not, both_of}
use Rattle.machine_laws.proofs.Listed.{header_there}

-- ---- made

-- a port that accepts a header has fewer than its count
pub accepts_fewer : (w : World) (c : Component) (p : Port) → accepting (look w).headers c p ≡ true → count_headers (is_for p.key) w.headers ≤ p.setting.definition.count
    → count_headers (is_for p.key) w.headers < p.setting.definition.count
accepts_fewer w c p a f =
    let x = both_of (p.state.enabled && not (is_populated (look w).headers p)) ((is_down c.state && is_going_to Idle c) || (is_up c.state && is_at_rest c)) a in
    let y = both_of p.state.enabled (not (is_populated (look w).headers p)) x.0 in
    let n = eqb-false (count_headers (is_for p.key) w.headers) p.setting.definition.count (is_not (is_populated (look w).headers p) y.1) in
    omega arith

none_of : {A : Type 0} (o : Option A) → is_some o ≡ false → o ≡ None
none_of None h = refl
none_of (Some x) h = absurd cc

pub unlinked : (p : Port) → is_joined p ≡ false → p.state.link ≡ None
unlinked p h = none_of p.state.link h

pub sound_made : (w : World) (i : ℕ) (c : Component) (index : ℕ) (p : Port) (client_memory : Bool) (memory : Option (List ℕ)) → Sound w → slice_get w.components i ≡ Some c → port_of c index ≡ Some p
    → accepting (look w).headers c p ≡ true → p.state.link ≡ None → Sound (with_header (client_header w.made p client_memory) memory w)
sound_made w i c index p client_memory memory S t e a l =
    let P = parts_of w S in
    let s : HeaderState = client_header w.made p client_memory in
    let r : HeaderRecord = record { state = s; load = empty_load memory } in
    let at = port_there_at w.numbered i w.components c index p P.rising t e in
    let few = accepts_fewer w c p a (P.tied.few p.key p at) in
    sound_from (with_header s memory w) (parts_push w.components r w.headers w.numbered w.made P refl refl
    (record { home = refl; port = is_there (port_at p.key w.components) (λ q. q.state.link ≡ None) p at l; owner = (refl, refl) })
    (λ key q k f. elim (for_which key s f) [
      | inl h ↦
          let b : Some q ≡ Some p = sym k ∙ (ap (λ (x : PortKey). port_at x w.components) (sym h) ∙ at) in
          let is : q ≡ p = cc in
          rw is (subst (λ (x : PortKey). count_headers (is_for x) w.headers < p.setting.definition.count) h few)
      | inr h ↦ absurd cc
    ])) (resources_of w S)

allocate_passes : (l : Look) (c : Component) (p : Port) → allocate_refusal l c (Some p) ≡ None → (accepting l.headers c p ≡ true) × (p.state.link ≡ None)
allocate_passes l c p h =
    let a = passed (is_invalid c.state) _ _ h in
    let b = passed (is_joined p) _ _ a.1 in
    let d = passed (not (accepting l.headers c p)) _ _ b.1 in
    (not_not (accepting l.headers c p) d.0, unlinked p b.0)

use_passes : (l : Look) (c : Component) (p : Port) (bytes : ℕ) → use_refusal l c (Some p) bytes ≡ None → (accepting l.headers c p ≡ true) × (p.state.link ≡ None)
use_passes l c p bytes h =
    let a = passed (is_invalid c.state) _ _ h in
    let b = passed (is_joined p || is_bad_length bytes p) _ _ a.1 in
    let d = passed (not (accepting l.headers c p)) _ _ b.1 in
    (not_not (accepting l.headers c p) d.0, unlinked p (not_either (is_joined p) (is_bad_length bytes p) b.0).0)

pub sound_allocated : (w : World) (i : ℕ) (c : Component) (index : ℕ) (p : Port) → Sound w → slice_get w.components i ≡ Some c → port_of c index ≡ Some p
    → allocate_refusal (look w) c (port_of c index) ≡ None → Sound (with_header (client_header w.made p false) None w)
sound_allocated w i c index p S t e h = let a = allocate_passes (look w) c p (rw e at h) in sound_made w i c index p false None S t e a.0 a.1

pub sound_used : (w : World) (i : ℕ) (c : Component) (index : ℕ) (p : Port) (bytes : List ℕ) → Sound w → slice_get w.components i ≡ Some c → port_of c index ≡ Some p
    → use_refusal (look w) c (port_of c index) (length bytes) ≡ None → Sound (with_header (client_header w.made p true) (Some bytes) w)
sound_used w i c index p bytes S t e h = let a = use_passes (look w) c p (length bytes) (rw e at h) in sound_made w i c index p true (Some bytes) S t e a.0 a.1

-- ---- handed in

-- a header that is in no note and no work, and was made for the port, goes to the back of the port's todo
pub sound_put : (w : World) (key : PortKey) (number : ℕ) (change : HeaderRecord → HeaderRecord) (r : HeaderRecord) → ((x : HeaderRecord) → (change x).state ≡ x.state)
    → Sound w → find_header number w.headers ≡ Some r → is_set_aside r.state.owner ≡ false → is_for key r.state ≡ true → Sound (with_todo key number change w)
sound_put w key number change r keeps S f a b = sound_from (with_todo key number change w) (parts_put w.components key TodoBack change number r w.headers w.numbered w.made keeps (parts_of w S) f a b) (resources_of w S)

empty_passes : (c : Component) (p : Port) (s : HeaderState) (content : List ℕ) → empty_refusal c (Some p) s content ≡ None → is_for p.key s ≡ true
empty_passes c p s content h =
    let a = passed (is_invalid c.state) _ _ h in
    let b = passed (not (is_input_port p)) _ _ a.1 in
    let d = passed (not (is_for p.key s && is_whole_frames p.setting.definition.format content)) _ _ b.1 in
    (both_of (is_for p.key s) (is_whole_frames p.setting.definition.format content) (not_not _ d.0)).0

fill_passes : (c : Component) (p : Port) (s : HeaderState) → fill_refusal c (Some p) s ≡ None → is_for p.key s ≡ true
fill_passes c p s h =
    let a = passed (is_invalid c.state) _ _ h in
    let b = passed (not (not (is_input_port p))) _ _ a.1 in
    let d = passed (not (is_for p.key s)) _ _ b.1 in
    not_not (is_for p.key s) d.0

pub sound_emptied : (w : World) (c : Component) (index : ℕ) (p : Port) (s : HeaderState) (header : Held) → Sound w → port_of c index ≡ Some p
    → (seen w.headers).header header.number ≡ Some s → s.owner ≡ owners.Client → empty_refusal c (port_of c index) s header.content ≡ None
    → Sound (with_todo p.key header.number (loaded (load_in header)) w)
sound_emptied w c index p s header S e f o h =
    let r = header_there (find_header header.number w.headers) (λ x. x ≡ s) (rw f refl) in
    let b = empty_passes c p s header.content (rw e at h) in
    let k : is_for p.key (r.0).state ≡ true = rw r.2 b in
    let n : is_set_aside (r.0).state.owner ≡ false = rw (r.2, o) refl in
    sound_put w p.key header.number (loaded (load_in header)) r.0 (λ x. refl) S r.1 n k

pub sound_filled : (w : World) (c : Component) (index : ℕ) (p : Port) (s : HeaderState) (header : Held) → Sound w → port_of c index ≡ Some p
    → (seen w.headers).header header.number ≡ Some s → s.owner ≡ owners.Client → fill_refusal c (port_of c index) s ≡ None
    → Sound (with_todo p.key header.number (loaded (unloaded (load_in header))) w)
sound_filled w c index p s header S e f o h =
    let r = header_there (find_header header.number w.headers) (λ x. x ≡ s) (rw f refl) in
    let b = fill_passes c p s (rw e at h) in
    let k : is_for p.key (r.0).state ≡ true = rw r.2 b in
    let n : is_set_aside (r.0).state.owner ≡ false = rw (r.2, o) refl in
    sound_put w p.key header.number (loaded (unloaded (load_in header))) r.0 (λ x. refl) S r.1 n k

-- ---- unmade

free_passes : (c : Component) (p : Port) (s : HeaderState) → free_buffer_refusal c (Some p) s ≡ None → (is_unpopulating c p && nat_eq (room c) 0) ≡ false
free_passes c p s h =
    let a = passed (not (is_for p.key s)) _ _ h in
    (passed (is_unpopulating c p && nat_eq (room c) 0) _ _ a.1).0

sound_unpopulated : (p : Port) (c : Component) → IsSound c → (is_unpopulating c p && nat_eq (room c) 0) ≡ false → IsSound (unpopulated p c)
sound_unpopulated p c S h = either (is_unpopulating c p)
    (λ t. let r : nat_eq (room c) 0 ≡ false = rw t at h in rw t (sound_told (Error errors.PortUnpopulated) c S r))
    (λ f. rw f S)

change_unpopulated : (p : Port) (c : Component) → IsChange c (unpopulated p c)
change_unpopulated p c = either (is_unpopulating c p) (λ t. rw t (change_told (Error errors.PortUnpopulated) c)) (λ f. rw f (change_none c))

aside_unpopulated : (p : Port) (c : Component) → IsAside c (unpopulated p c)
aside_unpopulated p c = either (is_unpopulating c p) (λ t. rw t (aside_told (Error errors.PortUnpopulated) c)) (λ f. rw f (aside_none c))

pub sound_freed : (w : World) (i : ℕ) (c : Component) (index : ℕ) (p : Port) (s : HeaderState) (number : ℕ) → Sound w → slice_get w.components i ≡ Some c → port_of c index ≡ Some p
    → (seen w.headers).header number ≡ Some s → s.owner ≡ owners.Client → free_buffer_refusal c (port_of c index) s ≡ None
    → Sound (without_header number (with_component i (unpopulated p c) w))
sound_freed w i c index p s number S t e f o h =
    let P = parts_of w S in
    let r = header_there (find_header number w.headers) (λ x. x ≡ s) (rw f refl) in
    let n : is_set_aside (r.0).state.owner ≡ false = rw (r.2, o) refl in
    let I = sound_unpopulated p c (P.components i c t) (free_passes c p s (rw e at h)) in
    let F = aside_there w i c (unpopulated p c) S t (aside_unpopulated p c) in
    let Q = parts_changed 0 w.waits w.waits w.numbered w.made i w.components w.headers c (unpopulated p c) P t (change_unpopulated p c) I F in
    sound_from (without_header number (with_component i (unpopulated p c) w)) (parts_without (set w.components i (unpopulated p c)) number r.0 w.headers w.numbered w.made Q r.1 n)
    (resources_changed w i c (unpopulated p c) S t (ap (λ h. h.generation) (change_unpopulated p c).handle) F)
