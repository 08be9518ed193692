-- The acts that move headers: none of them tells a completion or changes a state, and each moves one header at most.
use Rattle.std.proofs.Common.{◌≡◌, inl, inr, ℕ, Bool, true, false, List, [], ◌∷◌, ◌++◌, slice_get, Option, Some, None, refl, sym, ◌∙◌, ap}
use Rattle.std.specs.Prelude.{Contains}
use Rattle.omx_types.specs.declared.handle.Handle.{Handle}
use Rattle.omx_types.specs.declared.command.Completion.{Completion}
use Rattle.il_machine.specs.declared.port.PortKey.{PortKey}
use Rattle.il_machine.specs.declared.port.Link.{Link}
use Rattle.il_machine.specs.declared.port.Port.{Port}
use Rattle.il_machine.specs.declared.header.HeaderState.{HeaderState}
use Rattle.il_machine.specs.declared.header.Owner.TheVariants as owners
use Rattle.il_machine.specs.declared.header.Spot.{Spot}
use Rattle.il_machine.specs.declared.header.Spot.TheVariants.{TodoBack}
use Rattle.il_machine.specs.World.{Component, HeaderRecord, World, number_of, port_of, noted}
use Rattle.il_machine.specs.Headers.{seen, is_for, find_header, put_at, cleared, unchanged, given_to, Once}
use Rattle.il_machine.specs.Ports.{is_input_port}
use Rattle.il_machine.specs.Queued.{completions_in}
use Rattle.il_machine.specs.Flow.{front_put, at_link, in_port, front_unmade, done_note, front_noticed, returned, handed_back as put_back}
use Rattle.il_machine.specs.Trails.{Unmade, With, front_move, port_stop, home_stop, key_of, port_named, over, back}
use Rattle.machine_laws.proofs.Replacing.{replaced_changed, replaced_put}
use Rattle.machine_laws.proofs.Lookups.{port_parts}
use Rattle.history_laws.specs.Memory.{memory_of}
use Rattle.history_laws.proofs.Growth.{grows_by, none_in}
use Rattle.history_laws.proofs.Quiet.{Nothing as Silent}
use Rattle.history_laws.proofs.Births.{TellsNothing, silent_same, silent_set}
use Rattle.history_laws.proofs.Owners.{AreIn, in_todo_of, in_done_of}
use Rattle.history_laws.proofs.Carried.{Carried, Still, Gone, Moved}
use Rattle.history_laws.proofs.Out.{WorksStay, works_same, works_set}
use Rattle.history_laws.proofs.StillOut.{still_noted}
use Rattle.history_laws.proofs.Outcome.{IsNamed, silent_itself}

-- ---- the front of a list of a port

-- it is put into a list of another port
pub front_moves : (w : World) (key peer : PortKey) (spot : Spot) (change : HeaderRecord → HeaderRecord) (ns : List ℕ) → ((r : HeaderRecord) → (change r).state ≡ r.state) → ((r : HeaderRecord) → memory_of (change r) ≡ memory_of r)
    → Once w.headers → AreIn key ns w.headers → Carried w (front_move (port_stop key) (port_stop peer) ns) (front_put peer spot change ns w)
front_moves w key peer spot change [] keeps remembers o A = Still (record { headers = refl; made = refl; moves = refl })
front_moves w key peer spot change (n ∷ ns) keeps remembers o A =
    let r = (A.0).0 in
    let f = (A.0).1 in
    let own = (A.0).2 in
    Moved (record {
      number = n;
      was = r;
      now = put_at peer spot (change r);
      replaced = replaced_put peer spot change (λ x. ap (λ (s : HeaderState). s.number) (keeps x)) n w.headers r o f;
      made = refl;
      home = ap (λ (s : HeaderState). s.home) (keeps r);
      made_for = λ k. ap (is_for k) (keeps r);
      memory = inr (remembers r);
      moves = rw own refl;
    })

-- it goes into a note
noted_header : (i : ℕ) (c : Component) (p : Port) (w : World) (ns : List ℕ) → Once w.headers → AreIn p.key ns w.headers → p.key.component ≡ number_of c
    → Carried w (front_move (port_stop p.key) (With (owners.Notice p.key.component)) ns) (front_noticed i c p ns w)
noted_header i c p w [] o A k = Still (record { headers = refl; made = refl; moves = refl })
noted_header i c p w (n ∷ ns) o A k =
    let r = (A.0).0 in
    let f = (A.0).1 in
    let own = (A.0).2 in
    Moved (record {
      number = n;
      was = r;
      now = given_to (owners.Notice (number_of c)) (cleared r);
      replaced = replaced_changed (λ x. given_to (owners.Notice (number_of c)) (cleared x)) (λ x. refl) n w.headers r o f;
      made = refl;
      home = refl;
      made_for = λ k. refl;
      memory = inr refl;
      moves = rw (own, k) refl;
    })

are_in_both : (key : PortKey) (ns ms : List ℕ) (hs : List HeaderRecord) → AreIn key ns hs → AreIn key ms hs → AreIn key (ns ++ ms) hs
are_in_both key [] ms hs A B = B
are_in_both key (n ∷ ns) ms hs A B = (A.0, are_in_both key ns ms hs A.1 B)

pub in_port_of : (w : World) (p : Port) → Once w.headers → AreIn p.key (in_port (seen w.headers) p) w.headers
in_port_of w p o = are_in_both p.key ((seen w.headers).todo p.key) ((seen w.headers).done p.key) w.headers (in_todo_of p.key w.headers o) (in_done_of p.key w.headers o)

-- it is unmade, where the port supplies its tunnel
pub front_ends : (w : World) (key : PortKey) (ns : List ℕ) → AreIn key ns w.headers
    → ((n : ℕ) (r : HeaderRecord) → find_header n w.headers ≡ Some r → r.state.owner ≡ owners.Port key → With r.state.owner ≡ home_stop r.state.home)
    → Carried w (front_move (port_stop key) Unmade ns) (front_unmade ns w)
front_ends w key [] A h = Still (record { headers = refl; made = refl; moves = refl })
front_ends w key (n ∷ ns) A h =
    let r = (A.0).0 in
    let f = (A.0).1 in
    let own = (A.0).2 in
    Gone (record { number = n; was = r; found = f; headers = refl; made = refl; home = h n r f own; moves = rw own refl })

-- ---- what hand_over and hand_back do

pub over_moves : (w : World) (p : Port) (link : Option Link) → Once w.headers → Carried w (over w p link) (at_link link (λ peer. front_put peer TodoBack unchanged ((seen w.headers).done p.key)) w)
over_moves w p None o = Still (record { headers = refl; made = refl; moves = refl })
over_moves w p (Some link) o = front_moves w p.key link.peer TodoBack unchanged ((seen w.headers).done p.key) (λ r. refl) (λ r. refl) o (in_done_of p.key w.headers o)

returned_moves : (w : World) (key peer : PortKey) (b : Bool) (done todo : List ℕ) → Once w.headers → AreIn key done w.headers → AreIn key todo w.headers
    → Carried w (front_move (port_stop key) (port_stop peer) (done ++ todo)) (returned peer b done todo w)
returned_moves w key peer b [] todo o A B = front_moves w key peer _ cleared todo (λ r. refl) (λ r. refl) o B
returned_moves w key peer b (n ∷ done) todo o A B = front_moves w key peer TodoBack unchanged (n ∷ done) (λ r. refl) (λ r. refl) o A

pub back_moves : (i : ℕ) (c : Component) (p : Port) (w : World) (link : Option Link) → Once w.headers → p.key.component ≡ number_of c → Carried w (back w p link) (put_back i c p link w)
back_moves i c p w None o k = noted_header i c p w ((seen w.headers).todo p.key) o (in_todo_of p.key w.headers o) k
back_moves i c p w (Some link) o k = returned_moves w p.key link.peer (is_input_port p) ((seen w.headers).done p.key) ((seen w.headers).todo p.key) o (in_done_of p.key w.headers o) (in_todo_of p.key w.headers o)

no_completion : (b : Bool) (n : ℕ) (x : Completion) → Contains (completions_in (done_note b n ∷ [])) x → ⊥
no_completion true n x h = none_in x h
no_completion false n x h = none_in x h

noted_silent : (i : ℕ) (c : Component) (p : Port) (w : World) (ns : List ℕ) → slice_get w.components i ≡ Some c → TellsNothing w (front_noticed i c p ns w)
noted_silent i c p w [] at = silent_itself w
noted_silent i c p w (n ∷ ns) at =
    let note = done_note (is_input_port p) n in
    silent_set i w (front_noticed i c p (n ∷ ns) w) c (noted note c) at refl refl refl (grows_by Silent note c (no_completion (is_input_port p) n)) (inl refl)

put_silent : (w : World) (peer : PortKey) (spot : Spot) (change : HeaderRecord → HeaderRecord) (ns : List ℕ) → TellsNothing w (front_put peer spot change ns w)
put_silent w peer spot change [] = silent_itself w
put_silent w peer spot change (n ∷ ns) = silent_same w (front_put peer spot change (n ∷ ns) w) refl refl refl

pub over_silent : (w : World) (p : Port) (link : Option Link) → TellsNothing w (at_link link (λ peer. front_put peer TodoBack unchanged ((seen w.headers).done p.key)) w)
over_silent w p None = silent_itself w
over_silent w p (Some link) = put_silent w link.peer TodoBack unchanged ((seen w.headers).done p.key)

returned_silent : (w : World) (peer : PortKey) (b : Bool) (done todo : List ℕ) → TellsNothing w (returned peer b done todo w)
returned_silent w peer b [] todo = put_silent w peer _ cleared todo
returned_silent w peer b (n ∷ done) todo = put_silent w peer TodoBack unchanged (n ∷ done)

pub back_silent : (i : ℕ) (c : Component) (p : Port) (w : World) (link : Option Link) → slice_get w.components i ≡ Some c → TellsNothing w (put_back i c p link w)
back_silent i c p w None at = noted_silent i c p w ((seen w.headers).todo p.key) at
back_silent i c p w (Some link) at = returned_silent w link.peer (is_input_port p) ((seen w.headers).done p.key) ((seen w.headers).todo p.key)

pub unmade_silent : (w : World) (ns : List ℕ) → TellsNothing w (front_unmade ns w)
unmade_silent w [] = silent_itself w
unmade_silent w (n ∷ ns) = silent_same w (front_unmade (n ∷ ns) w) refl refl refl

-- ---- works that are out

put_works : (w : World) (peer : PortKey) (spot : Spot) (change : HeaderRecord → HeaderRecord) (ns : List ℕ) → WorksStay None w (front_put peer spot change ns w)
put_works w peer spot change [] = works_same None w w refl refl
put_works w peer spot change (n ∷ ns) = works_same None w (front_put peer spot change (n ∷ ns) w) refl refl

pub over_works : (w : World) (p : Port) (link : Option Link) → WorksStay None w (at_link link (λ peer. front_put peer TodoBack unchanged ((seen w.headers).done p.key)) w)
over_works w p None = works_same None w w refl refl
over_works w p (Some link) = put_works w link.peer TodoBack unchanged ((seen w.headers).done p.key)

returned_works : (w : World) (peer : PortKey) (b : Bool) (done todo : List ℕ) → WorksStay None w (returned peer b done todo w)
returned_works w peer b [] todo = put_works w peer _ cleared todo
returned_works w peer b (n ∷ done) todo = put_works w peer TodoBack unchanged (n ∷ done)

noted_works : (i : ℕ) (c : Component) (p : Port) (w : World) (ns : List ℕ) → slice_get w.components i ≡ Some c → WorksStay None w (front_noticed i c p ns w)
noted_works i c p w [] at = works_same None w w refl refl
noted_works i c p w (n ∷ ns) at =
    let note = done_note (is_input_port p) n in
    works_set None i w (front_noticed i c p (n ∷ ns) w) c (noted note c) at refl refl refl (λ o. still_noted note c)

pub back_works : (i : ℕ) (c : Component) (p : Port) (w : World) (link : Option Link) → slice_get w.components i ≡ Some c → WorksStay None w (put_back i c p link w)
back_works i c p w None at = noted_works i c p w ((seen w.headers).todo p.key) at
back_works i c p w (Some link) at = returned_works w link.peer (is_input_port p) ((seen w.headers).done p.key) ((seen w.headers).todo p.key)

pub unmade_works : (w : World) (ns : List ℕ) → WorksStay None w (front_unmade ns w)
unmade_works w [] = works_same None w w refl refl
unmade_works w (n ∷ ns) = works_same None w (front_unmade (n ∷ ns) w) refl refl

-- ---- the port that a handle and an index name

pub named_port : (w : World) (h : Handle) (i : ℕ) (c : Component) (port : ℕ) (p : Port) → IsNamed w h i c → port_of c port ≡ Some p → port_named h port w ≡ Some p
named_port w h i c port p N e = let a = N.place in let b = N.there in rw (a, b) e

pub named_key : (w : World) (h : Handle) (i : ℕ) (c : Component) (port : ℕ) (p : Port) → IsNamed w h i c → port_of c port ≡ Some p → key_of h port ≡ p.key
named_key w h i c port p N e =
    let n = sym N.number in
    let k : key_of h port ≡ record { component = number_of c; port = port } = λ i. record { component = n i; port = port } in
    k ∙ sym (port_parts c port p e).key

pub key_component : (c : Component) (port : ℕ) (p : Port) → port_of c port ≡ Some p → p.key.component ≡ number_of c
key_component c port p e = ap (λ (k : PortKey). k.component) (port_parts c port p e).key
