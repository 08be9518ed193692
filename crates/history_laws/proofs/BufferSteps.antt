-- What comes of the calls on headers of client ports, and of taking a note.
use Rattle.std.proofs.Common.{◌≡◌, inl, inr, ℕ, Bool, true, false, List, ◌∷◌, drop, slice_get, Option, Some, None, Result, refl, ◌∙◌, ap}
use Rattle.std.specs.Prelude.{length}
use Rattle.omx_types.specs.declared.handle.Handle.{Handle}
use Rattle.omx_types.specs.declared.command.Note.{Note}
use Rattle.omx_types.specs.declared.command.Note.TheVariants.{Told, EmptyDone, FillDone}
use Rattle.omx_types.specs.declared.error.OmxError.{OmxError}
use Rattle.omx_types.specs.declared.error.OmxError.TheVariants as errors
use Rattle.omx_types.specs.declared.error.CallError.{CallError}
use Rattle.omx_types.specs.declared.error.CallError.TheVariants.{Omx}
use Rattle.il_machine.specs.declared.port.PortKey.{PortKey}
use Rattle.il_machine.specs.declared.port.Port.{Port}
use Rattle.il_machine.specs.declared.header.HeaderState.{HeaderState}
use Rattle.il_machine.specs.declared.header.Owner.TheVariants as owners
use Rattle.il_machine.specs.declared.header.Spot.TheVariants.{TodoBack}
use Rattle.il_machine.specs.World.{Component, HeaderRecord, World, with_component, port_of}
use Rattle.il_machine.specs.Headers.{is_for, find_header, put_at, loaded, given_to, empty_load, unloaded}
use Rattle.il_machine.specs.Look.{look}
use Rattle.il_machine.specs.Due.{ClosesTo}
use Rattle.il_machine.specs.Answers.{plain}
use Rattle.il_machine.specs.Buffers.{Held, held, held_of, load_in, IsWithClient, AtPort, AllocateBuffer, UseBuffer, FreeBuffer, EmptyThisBuffer, FillThisBuffer, allocate_refusal, use_refusal, free_buffer_refusal, empty_refusal, fill_refusal, client_header, with_header, unpopulated, is_unpopulating, without_header, with_todo}
use Rattle.il_machine.specs.Notes.{Took, TakeNote, TakeFrom, first_taken, with_given, with_client}
use Rattle.il_machine.specs.Census.{note_numbers}
use Rattle.il_machine.specs.Acts as acts
use Rattle.il_machine.specs.Effect.{at_named, at_named_port}
use Rattle.il_machine.specs.Trails.{Unmade, With, moved, client_stop, port_stop, key_of}
use Rattle.il_machine.specs.Sound.{Sound}
use Rattle.machine_laws.proofs.Finding.{either, found_number}
use Rattle.machine_laws.proofs.Keys.{there_is}
use Rattle.machine_laws.proofs.Replacing.{replaced_changed, replaced_put}
use Rattle.machine_laws.proofs.Parts.{ports_in_list}
use Rattle.history_laws.proofs.Growth.{Grows, grows_not, fails}
use Rattle.history_laws.proofs.Quiet.{Nothing as Silent, first_note}
use Rattle.history_laws.proofs.Births.{TellsNothing, silent_same, silent_set, silent_taken}
use Rattle.history_laws.proofs.Carried.{Still, Made, Gone, Moved}
use Rattle.history_laws.proofs.Out.{works_same, works_set}
use Rattle.history_laws.proofs.StillOut.{still_unpopulated, still_taken}
use Rattle.history_laws.proofs.Homes.{found_state, set_in, client_home, noted_owner}
use Rattle.history_laws.proofs.Outcome.{turn, Turn, Outcome, done, Nothing, IsNamed, answers, answers_as, resolving}
use Rattle.history_laws.proofs.HeaderActs.{named_key}

-- the port that the handle and the index name, for the effect of an act
pub named_port_is : (w : World) (h : Handle) (i : ℕ) (c : Component) (port : ℕ) (p : Port) (change : ℕ → Component → Port → World) → IsNamed w h i c → port_of c port ≡ Some p → at_named_port h port w change ≡ change i c p
named_port_is w h i c port p change N e = let a = N.place in let b = N.there in rw (a, b, e) refl

-- ---- a header is made for a client port

made_for : (w v after : World) (p : Port) (b : Bool) (memory : Option (List ℕ)) (header : Held) → after ≡ with_header (client_header w.made p b) memory w → header ≡ held_of (client_header w.made p b) (empty_load memory)
    → ClosesTo (with_header (client_header w.made p b) memory w) v → Outcome w (record { moves = moved header.number Unmade client_stop; back = None; after = after }) v
made_for w v after p b memory header is e C =
    let mid = with_header (client_header w.made p b) memory w in
    done w v _ mid is C (record {
      silent = silent_same w mid refl refl refl;
      carried = Made (record { state = client_header w.made p b; memory = memory; number = refl; headers = refl; made = refl; home = refl; moves = ap (λ (x : Held). moved x.number Unmade client_stop) e });
      works = works_same None w mid refl refl;
    })

pub allocate_buffer : (w : World) (h : Handle) (port : ℕ) (result : Result Held CallError) (v : World) → AllocateBuffer w h port result v → Outcome w (turn w (acts.AllocateBuffer h port) (acts.Allocated result)) v
allocate_buffer w h port result v a =
    let ms : Result Held CallError → Turn = λ r. turn w (acts.AllocateBuffer h port) (acts.Allocated r) in
    resolving Omx w h result v _ a ms (λ e. refl) (λ i c named b.
    answers_as Omx (allocate_refusal (look w) c (port_of c port)) result w v ms
    (λ header. AtPort (port_of c port) (λ p. (header ≡ held_of (client_header w.made p false) (empty_load None)) × ClosesTo (with_header (client_header w.made p false) None w) v)) (λ e. refl) b
    (λ n header e x. let p = there_is (port_of c port) _ x in made_for w v _ p.0 false None header (named_port_is w h i c port p.0 (λ i c p. with_header (client_header w.made p false) None w) named p.1) (p.2).0 (p.2).1))

pub use_buffer : (w : World) (h : Handle) (port : ℕ) (bytes : List ℕ) (result : Result Held OmxError) (v : World) → UseBuffer w h port bytes result v → Outcome w (turn w (acts.UseBuffer h port bytes) (acts.Used result)) v
use_buffer w h port bytes result v a =
    let ms : Result Held OmxError → Turn = λ r. turn w (acts.UseBuffer h port bytes) (acts.Used r) in
    resolving plain w h result v _ a ms (λ e. refl) (λ i c named b.
    answers (use_refusal (look w) c (port_of c port) (length bytes)) result w v ms
    (λ header. AtPort (port_of c port) (λ p. (header ≡ held_of (client_header w.made p true) (empty_load (Some bytes))) × ClosesTo (with_header (client_header w.made p true) (Some bytes) w) v)) (λ e. refl) b
    (λ n header e x. let p = there_is (port_of c port) _ x in made_for w v _ p.0 true (Some bytes) header (named_port_is w h i c port p.0 (λ i c p. with_header (client_header w.made p true) (Some bytes) w) named p.1) (p.2).0 (p.2).1))

-- ---- a header of the client's

-- the header of the number is there, with the client
record IsClients (w : World) (number : ℕ) : Type 0 where
  was : HeaderRecord
  found : find_header number w.headers ≡ Some was
  owner : (was.state).owner ≡ owners.Client

clients : (w : World) (number : ℕ) (s : HeaderState) → (look w).headers.header number ≡ Some s → s.owner ≡ owners.Client → IsClients w number
clients w number s e o = let r = found_state number w s e in record { was = r.0; found = r.1; owner = ap (λ (x : HeaderState). x.owner) r.2 ∙ o }

with_client_is : (w : World) (number : ℕ) → IsWithClient number (look w) → IsClients w number
with_client_is w number M = let s = there_is ((look w).headers.header number) _ M in clients w number s.0 s.1 s.2

-- ---- free_buffer

unpopulated_grows : (p : Port) (c : Component) → Grows Silent c (unpopulated p c)
unpopulated_grows p c = either (is_unpopulating c p) (λ t. rw t (fails Silent errors.PortUnpopulated c)) (λ f. rw f (grows_not Silent c c refl refl))

unpopulated_state : (p : Port) (c : Component) → (unpopulated p c).state ≡ c.state
unpopulated_state p c = either (is_unpopulating c p) (λ t. rw t refl) (λ f. rw f refl)

freed : (w v after : World) (i : ℕ) (c : Component) (p : Port) (number : ℕ) → Sound w → slice_get w.components i ≡ Some c → IsClients w number → ClosesTo (without_header number (with_component i (unpopulated p c) w)) v
    → after ≡ without_header number (with_component i (unpopulated p c) w) → Outcome w (record { moves = moved number client_stop Unmade; back = None; after = after }) v
freed w v after i c p number S at H C is =
    let mid = without_header number (with_component i (unpopulated p c) w) in
    let r = H.was in
    let own = H.owner in
    done w v _ mid is C (record {
      silent = silent_set i w mid c (unpopulated p c) at refl refl refl (unpopulated_grows p c) (inl (unpopulated_state p c));
      carried = Gone (record {
        number = number;
        was = r;
        found = H.found;
        headers = refl;
        made = refl;
        home = client_home (ports_in_list w.components) r.state (set_in w number r S H.found) H.owner;
        moves = rw own refl;
      });
      works = works_set None i w mid c (unpopulated p c) at refl refl (unpopulated_grows p c).number (λ o. still_unpopulated p c);
    })

pub free_buffer : (w : World) (h : Handle) (port number : ℕ) (result : Result Bool OmxError) (v : World) → Sound w → IsWithClient number (look w) → FreeBuffer w h port number result v
    → Outcome w (turn w (acts.FreeBuffer h port number) (acts.Freed result)) v
free_buffer w h port number result v S M a =
    let ms : Result Bool OmxError → Turn = λ r. turn w (acts.FreeBuffer h port number) (acts.Freed r) in
    resolving plain w h result v _ a ms (λ e. refl) (λ i c named b.
    let s = there_is ((look w).headers.header number) _ b in
    answers (free_buffer_refusal c (port_of c port) s.0) result w v ms
    (λ is_clients. AtPort (port_of c port) (λ p. (is_clients ≡ (s.0).client_memory) × ClosesTo (without_header number (with_component i (unpopulated p c) w)) v)) (λ e. refl) s.2
    (λ n x e y. let p = there_is (port_of c port) _ y in freed w v _ i c p.0 number S named.there (with_client_is w number M) (p.2).1 (named_port_is w h i c port p.0 (λ i c p. without_header number (with_component i (unpopulated p c) w)) named p.1)))

-- ---- a header that is handed in

handed_in : (w v after : World) (h : Handle) (port : ℕ) (key : PortKey) (number : ℕ) (change : HeaderRecord → HeaderRecord) → ((r : HeaderRecord) → (change r).state ≡ r.state) → Sound w → key_of h port ≡ key → IsClients w number
    → ClosesTo (with_todo key number change w) v → after ≡ with_todo key number change w → Outcome w (record { moves = moved number client_stop (port_stop (key_of h port)); back = None; after = after }) v
handed_in w v after h port key number change keeps S k H C is =
    let mid = with_todo key number change w in
    let r = H.was in
    let own = H.owner in
    done w v _ mid is C (record {
      silent = silent_same w mid refl refl refl;
      carried = Moved (record {
        number = number;
        was = r;
        now = put_at key TodoBack (change r);
        replaced = replaced_put key TodoBack change (λ x. ap (λ (s : HeaderState). s.number) (keeps x)) number w.headers r S.once H.found;
        made = refl;
        home = ap (λ (s : HeaderState). s.home) (keeps r);
        made_for = λ k. ap (is_for k) (keeps r);
        memory = inl H.owner;
        moves = rw (own, k) refl;
      });
      works = works_same None w mid refl refl;
    })

pub empty_this_buffer : (w : World) (h : Handle) (port : ℕ) (header : Held) (result : Result (Unit {0}) OmxError) (v : World) → Sound w → IsWithClient header.number (look w) → EmptyThisBuffer w h port header result v
    → Outcome w (turn w (acts.EmptyThisBuffer h port header) (acts.Plain result)) v
empty_this_buffer w h port header result v S M a =
    let ms : Result (Unit {0}) OmxError → Turn = λ r. turn w (acts.EmptyThisBuffer h port header) (acts.Plain r) in
    resolving plain w h result v _ a ms (λ e. refl) (λ i c named b.
    let s = there_is ((look w).headers.header header.number) _ b in
    answers (empty_refusal c (port_of c port) s.0 header.content) result w v ms
    (λ _. AtPort (port_of c port) (λ p. ClosesTo (with_todo p.key header.number (loaded (load_in header)) w) v)) (λ e. refl) s.2
    (λ n x e y.
    let p = there_is (port_of c port) _ y in
    handed_in w v _ h port (p.0).key header.number (loaded (load_in header)) (λ r. refl) S (named_key w h i c port p.0 named p.1) (with_client_is w header.number M) p.2
    (named_port_is w h i c port p.0 (λ i c p. with_todo p.key header.number (loaded (load_in header)) w) named p.1)))

pub fill_this_buffer : (w : World) (h : Handle) (port : ℕ) (header : Held) (result : Result (Unit {0}) OmxError) (v : World) → Sound w → IsWithClient header.number (look w) → FillThisBuffer w h port header result v
    → Outcome w (turn w (acts.FillThisBuffer h port header) (acts.Plain result)) v
fill_this_buffer w h port header result v S M a =
    let ms : Result (Unit {0}) OmxError → Turn = λ r. turn w (acts.FillThisBuffer h port header) (acts.Plain r) in
    resolving plain w h result v _ a ms (λ e. refl) (λ i c named b.
    let s = there_is ((look w).headers.header header.number) _ b in
    answers (fill_refusal c (port_of c port) s.0) result w v ms
    (λ _. AtPort (port_of c port) (λ p. ClosesTo (with_todo p.key header.number (loaded (unloaded (load_in header))) w) v)) (λ e. refl) s.2
    (λ n x e y.
    let p = there_is (port_of c port) _ y in
    handed_in w v _ h port (p.0).key header.number (loaded (unloaded (load_in header))) (λ r. refl) S (named_key w h i c port p.0 named p.1) (with_client_is w header.number M) p.2
    (named_port_is w h i c port p.0 (λ i c p. with_todo p.key header.number (loaded (unloaded (load_in header))) w) named p.1)))

-- ---- take_note

taken_silent : (w v : World) (i : ℕ) (c : Component) (note : Note) → Sound w → slice_get w.components i ≡ Some c → slice_get c.notes 0 ≡ Some note
    → v.components ≡ (with_given i c note w).components → v.given ≡ (with_given i c note w).given → v.numbered ≡ w.numbered → TellsNothing w v
taken_silent w v i c note S at e cs g n = silent_taken i w v c (first_taken c) note S.rising (record { there = at; components = cs; number = refl; oldest = e; rest = refl; given = g }) n (inl refl)

taken_header : (w v : World) (h : Handle) (i : ℕ) (c : Component) (make : ℕ → Note) (number : ℕ) (rest : List ℕ) (r : HeaderRecord) → Sound w → IsNamed w h i c → slice_get c.notes 0 ≡ Some (make number) → note_numbers c.notes ≡ number ∷ rest
    → find_header number w.headers ≡ Some r → ClosesTo (with_client number (with_given i c (make number) w)) v
    → Outcome w (record { moves = moved (held r).number (With (owners.Notice h.generation)) client_stop; back = None; after = at_named h w (λ i c. with_client (held r).number (with_given i c (make (held r).number) w)) }) v
taken_header w v h i c make number rest r S N e n f C =
    let note = make number in
    let mid = with_client number (with_given i c note w) in
    let own : r.state.owner ≡ owners.Notice h.generation = noted_owner w i c number rest r S N.there n f ∙ ap (λ (x : ℕ). owners.Notice x) N.number in
    let is : r.state.number ≡ number = found_number number w.headers r f in
    let place = N.place in
    let there = N.there in
    let after : at_named h w (λ i c. with_client (held r).number (with_given i c (make (held r).number) w)) ≡ mid = rw (place, there, is) refl in
    done w v _ mid after C (record {
      silent = taken_silent w mid i c note S N.there e refl refl refl;
      carried = Moved (record {
        number = number;
        was = r;
        now = given_to owners.Client r;
        replaced = replaced_changed (given_to owners.Client) (λ x. refl) number w.headers r S.once f;
        made = refl;
        home = refl;
        made_for = λ k. refl;
        memory = inr refl;
        moves = rw (own, is) refl;
      });
      works = works_set None i w mid c (first_taken c) N.there refl refl refl (λ o. still_taken c);
    })

pub empty_first : (notes : List Note) (number : ℕ) → slice_get notes 0 ≡ Some (EmptyDone number) → note_numbers notes ≡ number ∷ note_numbers (drop 1 notes)
empty_first notes number e = ap note_numbers (first_note notes (EmptyDone number) e)

pub filled_first : (notes : List Note) (number : ℕ) → slice_get notes 0 ≡ Some (FillDone number) → note_numbers notes ≡ number ∷ note_numbers (drop 1 notes)
filled_first notes number e = ap note_numbers (first_note notes (FillDone number) e)

take_from : (w v : World) (h : Handle) (i : ℕ) (c : Component) (b : Bool) (o : Option Note) (result : Result Took OmxError) → Sound w → IsNamed w h i c → slice_get c.notes 0 ≡ o → TakeFrom w i c b o result v
    → Outcome w (turn w (acts.TakeNote h) (acts.Took result)) v
take_from w v h i c true o result S N e a = Nothing a.1 (rw a.0 refl)
take_from w v h i c false None result S N e a = Nothing a.1 (rw a.0 refl)
take_from w v h i c false (Some (Told event)) result S N e a =
    let mid = with_given i c (Told event) w in
    let place = N.place in
    let there = N.there in
    let after : at_named h w (λ i c. with_given i c (Told event) w) ≡ mid = rw (place, there) refl in
    rw a.0 (done w v _ mid after a.1 (record { silent = taken_silent w mid i c (Told event) S N.there e refl refl refl; carried = Still (record { headers = refl; made = refl; moves = refl }); works = works_set None i w mid c (first_taken c) N.there refl refl refl (λ o. still_taken c) }))
take_from w v h i c false (Some (EmptyDone number)) result S N e a =
    let r = there_is (find_header number w.headers) _ a in
    rw (r.2).0 (taken_header w v h i c (λ n. EmptyDone n) number (note_numbers (drop 1 c.notes)) r.0 S N e (empty_first c.notes number e) r.1 (r.2).1)
take_from w v h i c false (Some (FillDone number)) result S N e a =
    let r = there_is (find_header number w.headers) _ a in
    rw (r.2).0 (taken_header w v h i c (λ n. FillDone n) number (note_numbers (drop 1 c.notes)) r.0 S N e (filled_first c.notes number e) r.1 (r.2).1)

pub take_note : (w : World) (h : Handle) (result : Result Took OmxError) (v : World) → Sound w → TakeNote w h result v → Outcome w (turn w (acts.TakeNote h) (acts.Took result)) v
take_note w h result v S a =
    resolving plain w h result v _ a (λ r. turn w (acts.TakeNote h) (acts.Took r)) (λ e. refl) (λ i c named b. take_from w v h i c c.client_out (slice_get c.notes 0) result S named refl b)
