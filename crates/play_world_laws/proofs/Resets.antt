-- The reset of the headers at home, where every header of the link is at home and no work has one, is a change of the link.
use Rattle.std.proofs.Common.{◌≡◌, ◌≢◌, ℕ, ◌+◌, Bool, true, false, nat_eq, List, [], ◌∷◌, ◌++◌, length, map, Option, Some, option_map, refl, sym, ◌∙◌, ap, append-nil, append_assoc, length-append, eqb-true, subst, arith}
use Rattle.std.proofs.lemmas.Bool.{eqb-false}
use Rattle.il_machine.specs.declared.port.PortKey.{PortKey}
use Rattle.il_machine.specs.declared.header.Spot.TheVariants.{TodoBack, DoneBack}
use Rattle.il_machine.specs.World.{HeaderRecord}
use Rattle.il_machine.specs.Headers.{Seen, seen, load_at, load_of, find_header, put, put_at, put_all, cleared, cleared_all, reset, unloaded, is_state, is_owned_by, in_todo, in_done, same_key, Once, input_reset, output_reset}
use Rattle.il_machine.specs.Stock.{StandsFor, pushed, todo_pulled, done_pulled}
use Rattle.machine_laws.proofs.Finding.{either, changed_else}
use Rattle.machine_laws.proofs.Replacing.{IsReplaced, replaced_put}
use Rattle.machine_laws.proofs.Listed.{IsListed, AreListed, numbers_listed, todo_owner, done_owner}
use Rattle.stock_laws.proofs.Keys.{same_key-sym, same_key-refl}
use Rattle.stock_laws.proofs.Leaving.{Fronts, fronts}
use Rattle.stock_laws.proofs.Clearing.{clear_todo_stands, clear_done_stands}
use Rattle.stock_laws.proofs.Composed.{pull_put_cleared, send_put_cleared}
use Rattle.play_world_laws.specs.View.{LinkEnds, filled_of, filled, link_view, is_in}
use Rattle.play_world_laws.proofs.Same.{stock_of, stands_of, map_agrees, length_map, link_same, elsewhere_todo, elsewhere_done}

-- ---- what is carried by headers that aren't among those

not_head : (m n : ℕ) (ns : List ℕ) → is_in m (n ∷ ns) ≡ false → (m ≢ n) × (is_in m ns ≡ false)
not_head m n ns e = either (nat_eq m n)
    (λ t. let b : true ≡ false = rw t at e in absurd cc)
    (λ f. (eqb-false _ _ f, rw f at e))

cleared_off : (ns : List ℕ) (m : ℕ) (hs : List HeaderRecord) → is_in m ns ≡ false → load_at m (cleared_all ns hs) ≡ load_at m hs
cleared_off [] m hs e = refl
cleared_off (n ∷ ns) m hs e =
    let p = not_head m n ns e in
    cleared_off ns m _ p.1 ∙ ap (λ (o : Option HeaderRecord). option_map load_of o) (changed_else cleared (λ r. refl) n m hs p.0)

-- ---- one list after the other

-- the lists after all of one list of a port went to its other one
record IsShifted (key : PortKey) (ns : List ℕ) (hs ks : List HeaderRecord) : Type 0 where
  once : Once ks
  done : (k : PortKey) → same_key k key ≡ false → (seen ks).done k ≡ (seen hs).done k
  todo : (k : PortKey) → same_key k key ≡ false → (seen ks).todo k ≡ (seen hs).todo k
  loads : (m : ℕ) → is_in m ns ≡ false → load_at m ks ≡ load_at m hs

record IsBack (key : PortKey) (ns : List ℕ) (hs ks : List HeaderRecord) : Type 0 where
  gone : (seen ks).done key ≡ []
  come : (seen ks).todo key ≡ (seen hs).todo key ++ ns
  shifted : IsShifted key ns hs ks

all_back : (key : PortKey) (ns : List ℕ) (hs : List HeaderRecord) → Once hs → (seen hs).done key ≡ ns → IsBack key ns hs (put_all key TodoBack ns hs)
all_back key [] hs o e = record { gone = e; come = sym (append-nil ((seen hs).todo key)); shifted = record { once = o; done = λ k f. refl; todo = λ k f. refl; loads = λ m f. refl } }
all_back key (n ∷ ns) hs o e =
    let F : Fronts (is_state (in_done key)) n hs = fronts (is_state (in_done key)) n ns hs o e in
    let r : HeaderRecord = F.it in
    let found : find_header n hs ≡ Some r = F.is in
    let load : load_at n hs ≡ Some r.load = rw found refl in
    let ms : List HeaderRecord = put key TodoBack n cleared hs in
    let S : StandsFor (pushed key TodoBack n (unloaded r.load) (done_pulled key (stock_of hs))) ms = send_put_cleared (stock_of hs) hs key key TodoBack n ns r.load (stands_of hs o) e load in
    let R : IsReplaced n r (put_at key TodoBack (cleared r)) hs ms = replaced_put key TodoBack cleared (λ _. refl) n hs r o found in
    let gone : (seen ms).done key ≡ ns = ap (λ (s : Seen). s.done key) S.looks ∙ rw (e, same_key-refl key) refl in
    let come : (seen ms).todo key ≡ (seen hs).todo key ++ n ∷ [] = ap (λ (s : Seen). s.todo key) S.looks ∙ rw (e, same_key-refl key) refl in
    let I : IsBack key ns ms (put_all key TodoBack ns ms) = all_back key ns ms S.once gone in
    let J = I.shifted in
    record {
      gone = I.gone;
      come = I.come ∙ (ap (λ (z : List ℕ). z ++ ns) come ∙ append_assoc ((seen hs).todo key) (n ∷ []) ns);
      shifted = record {
        once = J.once;
        done = λ k f. J.done k f ∙ (ap (λ (s : Seen). s.done k) S.looks ∙ rw (e, f) refl);
        todo = λ k f. J.todo k f ∙ (ap (λ (s : Seen). s.todo k) S.looks ∙ rw (e, f) refl);
        loads = λ m f. let p = not_head m n ns f in J.loads m p.1 ∙ ap (λ (q : Option HeaderRecord). option_map load_of q) (R.others m p.0);
      };
    }

record IsOn (key : PortKey) (ns : List ℕ) (hs ks : List HeaderRecord) : Type 0 where
  gone : (seen ks).todo key ≡ []
  come : (seen ks).done key ≡ (seen hs).done key ++ ns
  shifted : IsShifted key ns hs ks

all_on : (key : PortKey) (ns : List ℕ) (hs : List HeaderRecord) → Once hs → (seen hs).todo key ≡ ns → IsOn key ns hs (put_all key DoneBack ns hs)
all_on key [] hs o e = record { gone = e; come = sym (append-nil ((seen hs).done key)); shifted = record { once = o; done = λ k f. refl; todo = λ k f. refl; loads = λ m f. refl } }
all_on key (n ∷ ns) hs o e =
    let F : Fronts (is_state (in_todo key)) n hs = fronts (is_state (in_todo key)) n ns hs o e in
    let r : HeaderRecord = F.it in
    let found : find_header n hs ≡ Some r = F.is in
    let load : load_at n hs ≡ Some r.load = rw found refl in
    let ms : List HeaderRecord = put key DoneBack n cleared hs in
    let S : StandsFor (pushed key DoneBack n (unloaded r.load) (todo_pulled key (stock_of hs))) ms = pull_put_cleared (stock_of hs) hs key key DoneBack n ns r.load (stands_of hs o) e load in
    let R : IsReplaced n r (put_at key DoneBack (cleared r)) hs ms = replaced_put key DoneBack cleared (λ _. refl) n hs r o found in
    let gone : (seen ms).todo key ≡ ns = ap (λ (s : Seen). s.todo key) S.looks ∙ rw (e, same_key-refl key) refl in
    let come : (seen ms).done key ≡ (seen hs).done key ++ n ∷ [] = ap (λ (s : Seen). s.done key) S.looks ∙ rw (e, same_key-refl key) refl in
    let I : IsOn key ns ms (put_all key DoneBack ns ms) = all_on key ns ms S.once gone in
    let J = I.shifted in
    record {
      gone = I.gone;
      come = I.come ∙ (ap (λ (z : List ℕ). z ++ ns) come ∙ append_assoc ((seen hs).done key) (n ∷ []) ns);
      shifted = record {
        once = J.once;
        done = λ k f. J.done k f ∙ (ap (λ (s : Seen). s.done k) S.looks ∙ rw (e, f) refl);
        todo = λ k f. J.todo k f ∙ (ap (λ (s : Seen). s.todo k) S.looks ∙ rw (e, f) refl);
        loads = λ m f. let p = not_head m n ns f in J.loads m p.1 ∙ ap (λ (q : Option HeaderRecord). option_map load_of q) (R.others m p.0);
      };
    }

-- ---- the reset of one port

pub record IsReset (key : PortKey) (hs ks : List HeaderRecord) : Type 0 where
  pub once : Once ks
  pub done : (k : PortKey) → same_key k key ≡ false → (seen ks).done k ≡ (seen hs).done k
  pub todo : (k : PortKey) → same_key k key ≡ false → (seen ks).todo k ≡ (seen hs).todo k
  pub loads : (m : ℕ) → is_in m ((seen hs).todo key) ≡ false → is_in m ((seen hs).done key) ≡ false → load_at m ks ≡ load_at m hs

record ResetsOutput (key : PortKey) (hs ks : List HeaderRecord) : Type 0 where
  reset : IsReset key hs ks
  gone : (seen ks).done key ≡ []
  come : (seen ks).todo key ≡ (seen hs).todo key ++ (seen hs).done key

resets_output : (key : PortKey) (hs : List HeaderRecord) → Once hs → ResetsOutput key hs (output_reset key hs)
resets_output key hs o =
    let ms : List HeaderRecord = cleared_all ((seen hs).todo key) hs in
    let C = clear_todo_stands (stock_of hs) hs key (stands_of hs o) in
    let B : IsBack key ((seen hs).done key) ms (output_reset key hs) = all_back key ((seen hs).done key) ms C.once (ap (λ (s : Seen). s.done key) C.looks) in
    let J = B.shifted in
    record {
      gone = B.gone;
      come = B.come ∙ ap (λ (z : List ℕ). z ++ (seen hs).done key) (ap (λ (s : Seen). s.todo key) C.looks);
      reset = record {
        once = J.once;
        done = λ k f. J.done k f ∙ ap (λ (s : Seen). s.done k) C.looks;
        todo = λ k f. J.todo k f ∙ ap (λ (s : Seen). s.todo k) C.looks;
        loads = λ m f g. J.loads m g ∙ cleared_off ((seen hs).todo key) m hs f;
      };
    }

record ResetsInput (key : PortKey) (hs ks : List HeaderRecord) : Type 0 where
  reset : IsReset key hs ks
  gone : (seen ks).todo key ≡ []
  come : (seen ks).done key ≡ (seen hs).done key ++ (seen hs).todo key

resets_input : (key : PortKey) (hs : List HeaderRecord) → Once hs → ResetsInput key hs (input_reset key hs)
resets_input key hs o =
    let ms : List HeaderRecord = cleared_all ((seen hs).done key) hs in
    let C = clear_done_stands (stock_of hs) hs key (stands_of hs o) in
    let B : IsOn key ((seen hs).todo key) ms (input_reset key hs) = all_on key ((seen hs).todo key) ms C.once (ap (λ (s : Seen). s.todo key) C.looks) in
    let J = B.shifted in
    record {
      gone = B.gone;
      come = B.come ∙ ap (λ (z : List ℕ). z ++ (seen hs).todo key) (ap (λ (s : Seen). s.done key) C.looks);
      reset = record {
        once = J.once;
        done = λ k f. J.done k f ∙ ap (λ (s : Seen). s.done k) C.looks;
        todo = λ k f. J.todo k f ∙ ap (λ (s : Seen). s.todo k) C.looks;
        loads = λ m f g. J.loads m f ∙ cleared_off ((seen hs).done key) m hs g;
      };
    }

pub is_reset : (input : Bool) (key : PortKey) (hs : List HeaderRecord) → Once hs → IsReset key hs (reset input key hs)
is_reset true key hs o = (resets_input key hs o).reset
is_reset false key hs o = (resets_output key hs o).reset

-- ---- the link of the port

module _ (x : LinkEnds) (hs : List HeaderRecord) (o : Once hs) (a : same_key x.input x.output ≡ false) (d : x.draining ≡ []) where
  -- the output supplies, and the input has none
  pub reset_output : (seen hs).todo x.input ≡ [] → link_view x (output_reset x.output hs)
      ≡ record (link_view x hs) { ready = (link_view x hs).ready + length (link_view x hs).sent; sent = [] }
  reset_output none =
      let ks : List HeaderRecord = output_reset x.output hs in
      let R : ResetsOutput x.output hs ks = resets_output x.output hs o in
      let T = R.reset in
      let ready : length ((seen ks).todo x.output) ≡ length ((seen hs).todo x.output) + length ((seen hs).done x.output) = ap length R.come ∙ length-append ((seen hs).todo x.output) ((seen hs).done x.output) in
      let many = length_map (filled x.unit hs) ((seen hs).done x.output) in
      let held : (seen ks).todo x.input ≡ [] = T.todo x.input a ∙ none in
      link_same (link_view x ks) (record (link_view x hs) { ready = (link_view x hs).ready + length (link_view x hs).sent; sent = [] })
      (omega arith)
      (ap (map (filled x.unit ks)) R.gone)
      (rw (d, held, none) refl)
      (ap length (T.done x.input a))
      refl refl

  -- the input supplies, and the output has none
  pub reset_input : (seen hs).done x.output ≡ [] → link_view x (input_reset x.input hs)
      ≡ record (link_view x hs) { spent = (link_view x hs).spent + length (link_view x hs).held; held = [] }
  reset_input none =
      let ks : List HeaderRecord = input_reset x.input hs in
      let R : ResetsInput x.input hs ks = resets_input x.input hs o in
      let T = R.reset in
      let b : same_key x.output x.input ≡ false = same_key-sym x.output x.input ∙ a in
      let spent : length ((seen ks).done x.input) ≡ length ((seen hs).done x.input) + length ((seen hs).todo x.input) = ap length R.come ∙ length-append ((seen hs).done x.input) ((seen hs).todo x.input) in
      let many = length_map (filled x.unit hs) (x.draining ++ (seen hs).todo x.input) in
      let all : length (x.draining ++ (seen hs).todo x.input) ≡ length ((seen hs).todo x.input) = rw d refl in
      let sent_ : (seen ks).done x.output ≡ [] = T.done x.output b ∙ none in
      link_same (link_view x ks) (record (link_view x hs) { spent = (link_view x hs).spent + length (link_view x hs).held; held = [] })
      (ap (λ (l : List ℕ). length x.filling + length l) (T.todo x.output b))
      (ap (map (filled x.unit ks)) sent_ ∙ ap (map (filled x.unit hs)) (sym none))
      (rw (d, R.gone) refl)
      (omega arith)
      refl refl

-- ---- other links

listed_in : (test : HeaderRecord → Bool) (hs : List HeaderRecord) (ns : List ℕ) (m : ℕ) → AreListed test hs ns → is_in m ns ≡ true → IsListed test hs m
listed_in test hs [] m A e = absurd cc
listed_in test hs (n ∷ ns) m A e = either (nat_eq m n)
    (λ t. let q : m ≡ n = eqb-true _ _ t in subst (λ (k : ℕ). IsListed test hs k) (sym q) A.0)
    (λ f. listed_in test hs ns m A.1 (rw f at e))

module _ (key : PortKey) (hs ks : List HeaderRecord) (o : Once hs) (R : IsReset key hs ks) where
  owned_off : (m : ℕ) (r : HeaderRecord) → find_header m hs ≡ Some r → is_owned_by key r.state.owner ≡ false → load_at m ks ≡ load_at m hs
  owned_off m r f e = R.loads m (elsewhere_todo m hs r key o f e) (elsewhere_done m hs r key o f e)

  todo_off : (k : PortKey) (m : ℕ) → same_key k key ≡ false → is_in m ((seen hs).todo k) ≡ true → load_at m ks ≡ load_at m hs
  todo_off k m e i =
      let L = listed_in (is_state (in_todo k)) hs ((seen hs).todo k) m (numbers_listed (is_state (in_todo k)) hs o) i in
      owned_off m L.header L.found (rw (todo_owner k (L.header).state L.passes) e)

  done_off : (k : PortKey) (m : ℕ) → same_key k key ≡ false → is_in m ((seen hs).done k) ≡ true → load_at m ks ≡ load_at m hs
  done_off k m e i =
      let L = listed_in (is_state (in_done k)) hs ((seen hs).done k) m (numbers_listed (is_state (in_done k)) hs o) i in
      owned_off m L.header L.found (rw (done_owner k (L.header).state L.passes) e)

  pub reset_beside : (y : LinkEnds) → y.draining ≡ [] → same_key y.output key ≡ false → same_key y.input key ≡ false → link_view y ks ≡ link_view y hs
  reset_beside y d p q =
      link_same (link_view y ks) (link_view y hs)
      (ap (λ (l : List ℕ). length y.filling + length l) (R.todo y.output p))
      (ap (map (filled y.unit ks)) (R.done y.output p) ∙ map_agrees (filled y.unit ks) (filled y.unit hs) ((seen hs).done y.output) (λ m i. ap (filled_of y.unit) (done_off y.output m p i)))
      (rw d (ap (map (filled y.unit ks)) (R.todo y.input q) ∙ map_agrees (filled y.unit ks) (filled y.unit hs) ((seen hs).todo y.input) (λ m i. ap (filled_of y.unit) (todo_off y.input m q i))))
      (ap length (R.done y.input q))
      refl refl

pub reset_beside_all : (is_input : Bool) (key : PortKey) (hs : List HeaderRecord) (y : LinkEnds) → Once hs → y.draining ≡ [] → same_key y.output key ≡ false → same_key y.input key ≡ false
    → link_view y (reset is_input key hs) ≡ link_view y hs
reset_beside_all is_input key hs y o d p q = reset_beside key hs (reset is_input key hs) o (is_reset is_input key hs o) y d p q
