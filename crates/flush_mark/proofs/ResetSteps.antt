-- The reset of a port's headers, one header after the other.
use Rattle.std.proofs.Common.{◌≡◌, ℕ, Bool, true, nat_eq, List, [], ◌∷◌, drop, slice_get, Option, Some, None, option_map, refl, sym, ◌∙◌, ap, subst, arith}
use Rattle.std.proofs.lemmas.Bool.Decides.{nat_tests}
use Rattle.il_machine.specs.declared.port.PortKey.{PortKey}
use Rattle.il_machine.specs.declared.header.HeaderState.{HeaderState}
use Rattle.il_machine.specs.declared.header.Spot.TheVariants.{TodoBack, DoneBack}
use Rattle.il_machine.specs.World.{HeaderRecord, Load}
use Rattle.il_machine.specs.Lists.{holds_at}
use Rattle.il_machine.specs.Headers.{Seen, is_for, put, put_all, cleared, cleared_all, unloaded, input_reset, output_reset}
use Rattle.il_machine.specs.Stock.{Stocked, StandsFor, is_out, todo_pulled, todo_front_pulled, todo_without, done_pulled, done_front_pulled, done_without, pushed, at_number, state_out}
use Rattle.stock_laws.specs.Changes.{todo_cleared, done_cleared}
use Rattle.stock_laws.proofs.Composed.{pull_put_cleared, send_put_cleared}
use Rattle.stock_laws.proofs.Clearing.{clear_todo_stands, clear_done_stands}
use Rattle.machine_laws.proofs.Keys.{key_same}
use Rattle.header_core.specs.BufferHeader as headers
use Rattle.flush_mark.specs.Leading.{Leads}

-- ---- a change of the flat list that is made in part: of each list that was stood for, the rest of the change leads to its end

pub record Stage (rest : List HeaderRecord → List HeaderRecord) (now : Stocked) (end : List HeaderRecord) : Type 0 where
  pub headers : List HeaderRecord
  pub stands : StandsFor now headers
  pub ends : rest headers ≡ end

pub record Begun (change rest : List HeaderRecord → List HeaderRecord) (old now : Stocked) : Type 0 where
  pub stands : (headers : List HeaderRecord) → StandsFor old headers → Stage rest now (change headers)
  pub key : now.key ≡ old.key
  pub ports : now.ports ≡ old.ports
  pub next : now.next ≡ old.next

pub finished : (change rest : List HeaderRecord → List HeaderRecord) (old now : Stocked) → ((hs : List HeaderRecord) → rest hs ≡ hs) → Begun change rest old now → Leads change old now
finished change rest old now r B = record {
  stands = λ hs S. let x = B.stands hs S in subst (StandsFor now) (sym (r x.headers) ∙ x.ends) x.stands;
  key = B.key;
  ports = B.ports;
  next = B.next;
}

pub not_begun : (change : List HeaderRecord → List HeaderRecord) (s : Stocked) → Begun change change s s
not_begun change s = record { stands = λ hs S. record { headers = hs; stands = S; ends = refl }; key = refl; ports = refl; next = refl }

pub unchanged : (s : Stocked) → Leads (λ hs. hs) s s
unchanged s = record { stands = λ hs S. S; key = refl; ports = refl; next = refl }

-- ---- the front of a list

pub front_is : (ns : List ℕ) (n : ℕ) → Some n ≡ slice_get ns 0 → ns ≡ n ∷ drop 1 ns
front_is [] n e = absurd cc
front_is (m ∷ ns) n e = let q : m ≡ n = cc in ap (λ (k : ℕ). k ∷ ns) q

pub no_front : (ns : List ℕ) → None ≡ slice_get ns 0 → ns ≡ []
no_front [] e = refl
no_front (m ∷ ns) e = absurd cc

-- ---- one header of todo goes to the back of done

pub begun_todo : (s : Stocked) (key : PortKey) → Begun (input_reset key) (put_all key DoneBack (s.headers.todo key)) s (done_cleared key s)
begun_todo s key = record {
  stands = λ hs S. record {
    headers = cleared_all (s.headers.done key) hs;
    stands = clear_done_stands s hs key S;
    ends = ap (λ (v : Seen). put_all key DoneBack (v.todo key) (cleared_all (v.done key) hs)) (sym S.looks);
  };
  key = refl;
  ports = refl;
  next = refl;
}

pub pulled_is : (s : Stocked) (key : PortKey) (n : ℕ) (ns : List ℕ) → s.headers.todo key ≡ n ∷ ns → todo_pulled key s ≡ is_out n (todo_without key n ns s)
pulled_is s key n ns e = ap (λ (xs : List ℕ). todo_front_pulled key xs s) e

pub todo_left : (s : Stocked) (key : PortKey) (n : ℕ) (ns : List ℕ) (load : Load) → s.headers.todo key ≡ n ∷ ns → (pushed key DoneBack n (unloaded load) (todo_pulled key s)).headers.todo key ≡ ns
todo_left s key n ns load e = rw (pulled_is s key n ns e, key_same key) refl

pub todo_step : (change : List HeaderRecord → List HeaderRecord) (old s : Stocked) (key : PortKey) (n : ℕ) (ns : List ℕ) (load : Load) → s.headers.todo key ≡ n ∷ ns → s.loads n ≡ Some load
    → Begun change (put_all key DoneBack (s.headers.todo key)) old s
    → Begun change (put_all key DoneBack ((pushed key DoneBack n (unloaded load) (todo_pulled key s)).headers.todo key)) old (pushed key DoneBack n (unloaded load) (todo_pulled key s))
todo_step change old s key n ns load e l B = record {
  stands = λ hs S.
      let x = B.stands hs S in
      record {
        headers = put key DoneBack n cleared x.headers;
        stands = pull_put_cleared s x.headers key key DoneBack n ns load x.stands e l;
        ends = ap (λ (xs : List ℕ). put_all key DoneBack xs (put key DoneBack n cleared x.headers)) (todo_left s key n ns load e)
            ∙ (ap (λ (xs : List ℕ). put_all key DoneBack xs x.headers) (sym e) ∙ x.ends);
      };
  key = ap (λ (t : Stocked). t.key) (pulled_is s key n ns e) ∙ B.key;
  ports = ap (λ (t : Stocked). t.ports) (pulled_is s key n ns e) ∙ B.ports;
  next = ap (λ (t : Stocked). t.next) (pulled_is s key n ns e) ∙ B.next;
}

-- ---- one header of done goes to the back of todo

pub begun_done : (s : Stocked) (key : PortKey) → Begun (output_reset key) (put_all key TodoBack (s.headers.done key)) s (todo_cleared key s)
begun_done s key = record {
  stands = λ hs S. record {
    headers = cleared_all (s.headers.todo key) hs;
    stands = clear_todo_stands s hs key S;
    ends = ap (λ (v : Seen). put_all key TodoBack (v.done key) (cleared_all (v.todo key) hs)) (sym S.looks);
  };
  key = refl;
  ports = refl;
  next = refl;
}

pub sent_is : (s : Stocked) (key : PortKey) (n : ℕ) (ns : List ℕ) → s.headers.done key ≡ n ∷ ns → done_pulled key s ≡ is_out n (done_without key ns s)
sent_is s key n ns e = ap (λ (xs : List ℕ). done_front_pulled key xs s) e

pub done_left : (s : Stocked) (key : PortKey) (n : ℕ) (ns : List ℕ) (load : Load) → s.headers.done key ≡ n ∷ ns → (pushed key TodoBack n (unloaded load) (done_pulled key s)).headers.done key ≡ ns
done_left s key n ns load e = rw (sent_is s key n ns e, key_same key) refl

pub done_step : (change : List HeaderRecord → List HeaderRecord) (old s : Stocked) (key : PortKey) (n : ℕ) (ns : List ℕ) (load : Load) → s.headers.done key ≡ n ∷ ns → s.loads n ≡ Some load
    → Begun change (put_all key TodoBack (s.headers.done key)) old s
    → Begun change (put_all key TodoBack ((pushed key TodoBack n (unloaded load) (done_pulled key s)).headers.done key)) old (pushed key TodoBack n (unloaded load) (done_pulled key s))
done_step change old s key n ns load e l B = record {
  stands = λ hs S.
      let x = B.stands hs S in
      record {
        headers = put key TodoBack n cleared x.headers;
        stands = send_put_cleared s x.headers key key TodoBack n ns load x.stands e l;
        ends = ap (λ (xs : List ℕ). put_all key TodoBack xs (put key TodoBack n cleared x.headers)) (done_left s key n ns load e)
            ∙ (ap (λ (xs : List ℕ). put_all key TodoBack xs x.headers) (sym e) ∙ x.ends);
      };
  key = ap (λ (t : Stocked). t.key) (sent_is s key n ns e) ∙ B.key;
  ports = ap (λ (t : Stocked). t.ports) (sent_is s key n ns e) ∙ B.ports;
  next = ap (λ (t : Stocked). t.next) (sent_is s key n ns e) ∙ B.next;
}

-- ---- the header that left its list was made for the port

pub made_out : (n : ℕ) (key : PortKey) (o : Option HeaderState) (test : HeaderState → Bool) (f : ℕ → Option HeaderState) → ((h : HeaderState) → o ≡ Some h → test h ≡ true → is_for key h ≡ true)
    → holds_at o test ≡ true → holds_at (at_number n (option_map state_out o) f n) (is_for key) ≡ true
made_out n key o test f k t = let q : nat_eq n n ≡ true = grind (arith, nat_tests) in rw q (elim o as (λ y. ((h : HeaderState) → y ≡ Some h → test h ≡ true → is_for key h ≡ true) → holds_at y test ≡ true → holds_at (option_map state_out y) (is_for key) ≡ true) [
  | None ↦ λ k t. absurd cc
  | Some h ↦ λ k t. k h refl t
] k t)
