-- Two changes one after the other, and the one change of the flat list that they are together.
use Rattle.std.proofs.Common.{◌≡◌, ℕ, List, [], ◌∷◌, ◌++◌, Some, None, option_map, refl, sym, ◌∙◌, ap, arith, subst}
use Rattle.std.proofs.lemmas.Bool.Decides.{nat_tests}
use Rattle.il_machine.specs.declared.port.PortKey.{PortKey}
use Rattle.il_machine.specs.declared.header.Owner.{Owner}
use Rattle.il_machine.specs.declared.header.Queue.TheVariants.{Out}
use Rattle.il_machine.specs.declared.header.Spot.{Spot}
use Rattle.il_machine.specs.declared.header.HeaderState.{HeaderState}
use Rattle.il_machine.specs.World.{HeaderRecord, Load}
use Rattle.il_machine.specs.Headers.{find_header, load_at, load_of, without, changed, at_spot, put, put_at, loaded, cleared, unchanged, unloaded, given_to}
use Rattle.il_machine.specs.Stock.{Stocked, StandsFor, pushed, todo_pulled, todo_front_pulled, done_pulled, done_front_pulled, header_given, header_made, header_unmade, state_out}
use Rattle.stock_laws.specs.Changes.{out_of_list, front_out}
use Rattle.stock_laws.proofs.Flat.{find_number, find-changed, find-append, without-changed, without-append, changed-changed, changed-as}
use Rattle.stock_laws.proofs.Keys.{at_number-same}
use Rattle.stock_laws.proofs.Standing.{Found, found, missing, load_free, push_stands, give_stands, make_stands, unmake_stands}
use Rattle.stock_laws.proofs.Leaving.{front_of_todo, front_of_done, pull_stands, send_stands}

-- What is kept stands for the flat list whose header of the number left its list where it stands.
pub record Taken (t : Stocked) (n : ℕ) (hs : List HeaderRecord) : Type 0 where
  pub state : HeaderState
  pub shown : t.headers.header n ≡ Some (state_out state)
  pub unkept : t.loads n ≡ None
  pub found : Found n hs state
  pub stands : StandsFor t (changed n out_of_list hs)

pub pull_taken : (s : Stocked) (hs : List HeaderRecord) (key : PortKey) (n : ℕ) (ns : List ℕ) → StandsFor s hs → s.headers.todo key ≡ n ∷ ns → Taken (todo_pulled key s) n hs
pull_taken s hs key n ns S e =
    let F = front_of_todo s hs key n ns S e in
    let shown : (todo_front_pulled key (n ∷ ns) s).headers.header n ≡ Some (state_out F.state) = at_number-same n _ s.headers.header ∙ ap (option_map state_out) F.is in
    let unkept : (todo_front_pulled key (n ∷ ns) s).loads n ≡ None = at_number-same n None s.loads in
    let P : List ℕ → Type 0 = λ v. (todo_front_pulled key v s).headers.header n ≡ Some (state_out F.state) in
    let N : List ℕ → Type 0 = λ v. (todo_front_pulled key v s).loads n ≡ None in
    let Q : List ℕ → Type 0 = λ v. StandsFor (todo_pulled key s) (front_out v hs) in
    record { state = F.state; shown = subst P (sym e) shown; unkept = subst N (sym e) unkept; found = found s hs n F.state S F.is; stands = subst Q e (pull_stands s hs key S) }

pub send_taken : (s : Stocked) (hs : List HeaderRecord) (key : PortKey) (n : ℕ) (ns : List ℕ) → StandsFor s hs → s.headers.done key ≡ n ∷ ns → Taken (done_pulled key s) n hs
send_taken s hs key n ns S e =
    let F = front_of_done s hs key n ns S e in
    let shown : (done_front_pulled key (n ∷ ns) s).headers.header n ≡ Some (state_out F.state) = at_number-same n _ s.headers.header ∙ ap (option_map state_out) F.is in
    let unkept : (done_front_pulled key (n ∷ ns) s).loads n ≡ None = at_number-same n None s.loads in
    let P : List ℕ → Type 0 = λ v. (done_front_pulled key v s).headers.header n ≡ Some (state_out F.state) in
    let N : List ℕ → Type 0 = λ v. (done_front_pulled key v s).loads n ≡ None in
    let Q : List ℕ → Type 0 = λ v. StandsFor (done_pulled key s) (front_out v hs) in
    record { state = F.state; shown = subst P (sym e) shown; unkept = subst N (sym e) unkept; found = found s hs n F.state S F.is; stands = subst Q e (send_stands s hs key S) }

-- ---- then it is put into a list

put_out : (key : PortKey) (spot : Spot) (n : ℕ) (load : Load) (hs : List HeaderRecord) (r : HeaderRecord) → find_header n hs ≡ Some r → put key spot n (loaded load) (changed n out_of_list hs) ≡ put key spot n (loaded load) hs
put_out key spot n load hs r e =
    let m = find_number n hs r e in
    let a : find_header n (changed n out_of_list hs) ≡ Some (out_of_list r) = grind (arith, nat_tests, find-changed n n out_of_list hs r e refl) in
    rw (a, e, without-changed n out_of_list hs (λ _. refl)) refl

pub taken_put : (t : Stocked) (hs : List HeaderRecord) (n : ℕ) (key : PortKey) (spot : Spot) (load : Load) → Taken t n hs → StandsFor (pushed key spot n load t) (put key spot n (loaded load) hs)
taken_put t hs n key spot load T =
    let Q : List HeaderRecord → Type 0 = λ v. StandsFor (pushed key spot n load t) v in
    subst Q (put_out key spot n load hs T.found.it T.found.is) (push_stands t (changed n out_of_list hs) key spot n load (state_out T.state) T.stands T.shown refl)

load_is : (n : ℕ) (load : Load) (hs : List HeaderRecord) (r : HeaderRecord) → find_header n hs ≡ Some r → load_at n hs ≡ Some load → r.load ≡ load
load_is n load hs r e l = let same : Some r.load ≡ Some load = ap (option_map load_of) (sym e) ∙ l in cc

-- with what it carried it is put unchanged
put_same : (key : PortKey) (spot : Spot) (n : ℕ) (load : Load) (hs : List HeaderRecord) (r : HeaderRecord) → find_header n hs ≡ Some r → load_at n hs ≡ Some load → put key spot n (loaded load) hs ≡ put key spot n unchanged hs
put_same key spot n load hs r e l = rw (e, ← load_is n load hs r e l) refl

-- with nothing but the memory that it carried it is put cleared
put_unloaded : (key : PortKey) (spot : Spot) (n : ℕ) (load : Load) (hs : List HeaderRecord) (r : HeaderRecord) → find_header n hs ≡ Some r → load_at n hs ≡ Some load
    → put key spot n (loaded (unloaded load)) hs ≡ put key spot n cleared hs
put_unloaded key spot n load hs r e l = rw (e, ← load_is n load hs r e l) refl

pub taken_put_back : (t : Stocked) (hs : List HeaderRecord) (n : ℕ) (key : PortKey) (spot : Spot) (load : Load) → Taken t n hs → load_at n hs ≡ Some load → StandsFor (pushed key spot n load t) (put key spot n unchanged hs)
taken_put_back t hs n key spot load T l =
    let Q : List HeaderRecord → Type 0 = λ v. StandsFor (pushed key spot n load t) v in
    subst Q (put_same key spot n load hs T.found.it T.found.is l) (taken_put t hs n key spot load T)

pub taken_put_cleared : (t : Stocked) (hs : List HeaderRecord) (n : ℕ) (key : PortKey) (spot : Spot) (load : Load) → Taken t n hs → load_at n hs ≡ Some load
    → StandsFor (pushed key spot n (unloaded load) t) (put key spot n cleared hs)
taken_put_cleared t hs n key spot load T l =
    let Q : List HeaderRecord → Type 0 = λ v. StandsFor (pushed key spot n (unloaded load) t) v in
    subst Q (put_unloaded key spot n load hs T.found.it T.found.is l) (taken_put t hs n key spot (unloaded load) T)

-- ---- then it is given to an owner, or unmade

pub taken_given : (t : Stocked) (hs : List HeaderRecord) (n : ℕ) (owner : Owner) (load : Load) → Taken t n hs → StandsFor (header_given n owner t) (changed n (λ r. given_to owner (loaded load r)) hs)
taken_given t hs n owner load T =
    let vs = changed n out_of_list hs in
    let us = changed n (loaded load) vs in
    let U : StandsFor t us = load_free t vs n load (state_out T.state) T.stands T.shown refl T.unkept in
    let e : changed n (given_to owner) us ≡ changed n (λ r. given_to owner (loaded load r)) hs
    = changed-changed n (loaded load) (given_to owner) vs (λ _. refl) ∙ changed-changed n out_of_list (λ r. given_to owner (loaded load r)) hs (λ _. refl) in
    let Q : List HeaderRecord → Type 0 = λ v. StandsFor (header_given n owner t) v in
    subst Q e (give_stands t us n owner (state_out T.state) U T.shown refl)

-- as it is
taken_given_on : (t : Stocked) (hs : List HeaderRecord) (n : ℕ) (owner : Owner) → Taken t n hs → StandsFor (header_given n owner t) (changed n (given_to owner) hs)
taken_given_on t hs n owner T =
    let load = T.found.it.load in
    let Q : List HeaderRecord → Type 0 = λ v. StandsFor (header_given n owner t) v in
    subst Q (changed-as n (λ r. given_to owner (loaded load r)) (given_to owner) hs T.found.it T.found.is refl) (taken_given t hs n owner load T)

-- a header that is in no list is given to an owner with a new load, of which nothing is kept
pub give_loaded : (s : Stocked) (hs : List HeaderRecord) (n : ℕ) (owner : Owner) (load : Load) (h : HeaderState) → StandsFor s hs → s.headers.header n ≡ Some h → h.queue ≡ Out → s.loads n ≡ None
    → StandsFor (header_given n owner s) (changed n (λ r. given_to owner (loaded load r)) hs)
give_loaded s hs n owner load h S e o none =
    let ks : List HeaderRecord = changed n (loaded load) hs in
    let A = load_free s hs n load h S e o none in
    let B = give_stands s ks n owner h A e o in
    let Q : List HeaderRecord → Type 0 = λ v. StandsFor (header_given n owner s) v in
    subst Q (changed-changed n (loaded load) (given_to owner) hs (λ _. refl)) B

-- it keeps the memory that it has
pub taken_given_cleared : (t : Stocked) (hs : List HeaderRecord) (n : ℕ) (owner : Owner) → Taken t n hs → StandsFor (header_given n owner t) (changed n (λ r. given_to owner (cleared r)) hs)
taken_given_cleared t hs n owner T =
    let load = unloaded T.found.it.load in
    let Q : List HeaderRecord → Type 0 = λ v. StandsFor (header_given n owner t) v in
    subst Q (changed-as n (λ r. given_to owner (loaded load r)) (λ r. given_to owner (cleared r)) hs T.found.it T.found.is refl) (taken_given t hs n owner load T)

pub taken_unmade : (t : Stocked) (hs : List HeaderRecord) (n : ℕ) → Taken t n hs → StandsFor (header_unmade n t) (without n hs)
taken_unmade t hs n T =
    let Q : List HeaderRecord → Type 0 = λ v. StandsFor (header_unmade n t) v in
    subst Q (without-changed n out_of_list hs (λ _. refl)) (unmake_stands t (changed n out_of_list hs) n (state_out T.state) T.stands T.shown refl)

-- ---- a header that was just made is put into a list

put_last : (key : PortKey) (spot : Spot) (n : ℕ) (load : Load) (hs : List HeaderRecord) (x : HeaderRecord) → find_header n hs ≡ None → x.state.number ≡ n
    → put key spot n (loaded load) (hs ++ x ∷ []) ≡ at_spot spot (put_at key spot (loaded load x)) hs
put_last key spot n load hs x gone e =
    let g : find_header x.state.number hs ≡ None = rw e gone in
    let a : find_header n (hs ++ x ∷ []) ≡ Some x = find-append n hs x g ∙ grind (arith, nat_tests) in
    rw (a, without-append n hs x gone e) refl

pub make_put : (s : Stocked) (hs : List HeaderRecord) (state : HeaderState) (key : PortKey) (spot : Spot) (load : Load) → StandsFor s hs → s.headers.header s.next ≡ None → state.number ≡ s.next → state.queue ≡ Out
    → StandsFor (pushed key spot s.next load (header_made state s)) (at_spot spot (put_at key spot (record { state = state; load = load })) hs)
make_put s hs state key spot load S e num o =
    let x : HeaderRecord = record { state = state; load = load } in
    let gone = missing s hs s.next S e in
    let shown : (header_made state s).headers.header s.next ≡ Some state = at_number-same s.next (Some state) s.headers.header in
    let Q : List HeaderRecord → Type 0 = λ v. StandsFor (pushed key spot s.next load (header_made state s)) v in
    subst Q (put_last key spot s.next load hs x gone num) (push_stands (header_made state s) (hs ++ x ∷ []) key spot s.next load state (make_stands s hs state load S e num o) shown o)

-- ---- the front of todo, and that of done, leaves its list and goes on

pub pull_put : (s : Stocked) (hs : List HeaderRecord) (key peer : PortKey) (spot : Spot) (n : ℕ) (ns : List ℕ) (load : Load) → StandsFor s hs → s.headers.todo key ≡ n ∷ ns
    → StandsFor (pushed peer spot n load (todo_pulled key s)) (put peer spot n (loaded load) hs)
pull_put s hs key peer spot n ns load S e = taken_put (todo_pulled key s) hs n peer spot load (pull_taken s hs key n ns S e)

pub pull_put_back : (s : Stocked) (hs : List HeaderRecord) (key peer : PortKey) (spot : Spot) (n : ℕ) (ns : List ℕ) (load : Load) → StandsFor s hs → s.headers.todo key ≡ n ∷ ns → s.loads n ≡ Some load
    → StandsFor (pushed peer spot n load (todo_pulled key s)) (put peer spot n unchanged hs)
pull_put_back s hs key peer spot n ns load S e l = taken_put_back (todo_pulled key s) hs n peer spot load (pull_taken s hs key n ns S e) (S.loads n load l)

pub pull_put_cleared : (s : Stocked) (hs : List HeaderRecord) (key peer : PortKey) (spot : Spot) (n : ℕ) (ns : List ℕ) (load : Load) → StandsFor s hs → s.headers.todo key ≡ n ∷ ns → s.loads n ≡ Some load
    → StandsFor (pushed peer spot n (unloaded load) (todo_pulled key s)) (put peer spot n cleared hs)
pull_put_cleared s hs key peer spot n ns load S e l = taken_put_cleared (todo_pulled key s) hs n peer spot load (pull_taken s hs key n ns S e) (S.loads n load l)

pub pull_give_on : (s : Stocked) (hs : List HeaderRecord) (key : PortKey) (owner : Owner) (n : ℕ) (ns : List ℕ) → StandsFor s hs → s.headers.todo key ≡ n ∷ ns
    → StandsFor (header_given n owner (todo_pulled key s)) (changed n (given_to owner) hs)
pull_give_on s hs key owner n ns S e = taken_given_on (todo_pulled key s) hs n owner (pull_taken s hs key n ns S e)

pub pull_give : (s : Stocked) (hs : List HeaderRecord) (key : PortKey) (owner : Owner) (n : ℕ) (ns : List ℕ) → StandsFor s hs → s.headers.todo key ≡ n ∷ ns
    → StandsFor (header_given n owner (todo_pulled key s)) (changed n (λ r. given_to owner (cleared r)) hs)
pull_give s hs key owner n ns S e = taken_given_cleared (todo_pulled key s) hs n owner (pull_taken s hs key n ns S e)

pub pull_unmade : (s : Stocked) (hs : List HeaderRecord) (key : PortKey) (n : ℕ) (ns : List ℕ) → StandsFor s hs → s.headers.todo key ≡ n ∷ ns
    → StandsFor (header_unmade n (todo_pulled key s)) (without n hs)
pull_unmade s hs key n ns S e = taken_unmade (todo_pulled key s) hs n (pull_taken s hs key n ns S e)

pub send_put : (s : Stocked) (hs : List HeaderRecord) (key peer : PortKey) (spot : Spot) (n : ℕ) (ns : List ℕ) (load : Load) → StandsFor s hs → s.headers.done key ≡ n ∷ ns
    → StandsFor (pushed peer spot n load (done_pulled key s)) (put peer spot n (loaded load) hs)
send_put s hs key peer spot n ns load S e = taken_put (done_pulled key s) hs n peer spot load (send_taken s hs key n ns S e)

pub send_put_back : (s : Stocked) (hs : List HeaderRecord) (key peer : PortKey) (spot : Spot) (n : ℕ) (ns : List ℕ) (load : Load) → StandsFor s hs → s.headers.done key ≡ n ∷ ns → s.loads n ≡ Some load
    → StandsFor (pushed peer spot n load (done_pulled key s)) (put peer spot n unchanged hs)
send_put_back s hs key peer spot n ns load S e l = taken_put_back (done_pulled key s) hs n peer spot load (send_taken s hs key n ns S e) (S.loads n load l)

pub send_put_cleared : (s : Stocked) (hs : List HeaderRecord) (key peer : PortKey) (spot : Spot) (n : ℕ) (ns : List ℕ) (load : Load) → StandsFor s hs → s.headers.done key ≡ n ∷ ns → s.loads n ≡ Some load
    → StandsFor (pushed peer spot n (unloaded load) (done_pulled key s)) (put peer spot n cleared hs)
send_put_cleared s hs key peer spot n ns load S e l = taken_put_cleared (done_pulled key s) hs n peer spot load (send_taken s hs key n ns S e) (S.loads n load l)

pub send_give : (s : Stocked) (hs : List HeaderRecord) (key : PortKey) (owner : Owner) (n : ℕ) (ns : List ℕ) → StandsFor s hs → s.headers.done key ≡ n ∷ ns
    → StandsFor (header_given n owner (done_pulled key s)) (changed n (λ r. given_to owner (cleared r)) hs)
send_give s hs key owner n ns S e = taken_given_cleared (done_pulled key s) hs n owner (send_taken s hs key n ns S e)

pub send_unmade : (s : Stocked) (hs : List HeaderRecord) (key : PortKey) (n : ℕ) (ns : List ℕ) → StandsFor s hs → s.headers.done key ≡ n ∷ ns
    → StandsFor (header_unmade n (done_pulled key s)) (without n hs)
send_unmade s hs key n ns S e = taken_unmade (done_pulled key s) hs n (send_taken s hs key n ns S e)
