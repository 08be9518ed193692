-- The headers made for the ends of a tunnel are those in the two lists of each end, and those that a work of an end has.
use Rattle.std.proofs.Common.{◌≡◌, ◌≢◌, ◌⊎◌, inl, inr, ℕ, ◌+◌, Bool, true, false, ◌&&◌, nat_eq, List, [], ◌∷◌, ◌++◌, length, map, All, Option, Some, None, option_map, MatchOption, refl, sym, ◌∙◌, ap, subst, length-append, eqb-true, eq-eqb, ne_eqb, arith}
use Rattle.std.proofs.lemmas.Bool.{eqb-false, or_cases}
use Rattle.std.proofs.lemmas.List.Elements.{All-head, All-tail}
use Rattle.omx_types.specs.declared.param.Supplier.{Supplier}
use Rattle.il_machine.specs.declared.port.PortKey.{PortKey}
use Rattle.il_machine.specs.declared.port.Port.{Port}
use Rattle.il_machine.specs.declared.header.Owner.{Owner}
use Rattle.il_machine.specs.declared.header.Owner.TheVariants as owners
use Rattle.il_machine.specs.declared.header.Queue.{Queue}
use Rattle.il_machine.specs.declared.header.Queue.TheVariants.{Out, Todo, Done}
use Rattle.il_machine.specs.declared.header.HeaderState.{HeaderState}
use Rattle.il_machine.specs.Lists.{holds_at}
use Rattle.il_machine.specs.World.{Component, HeaderRecord, Picked, Work, World}
use Rattle.il_machine.specs.Headers.{seen, state_of, is_for, is_owned_by, is_todo, is_done, is_work_of, in_todo, in_done, find_header, count_headers, weight, same_key, Once}
use Rattle.il_machine.specs.Census.{times, work_numbers}
use Rattle.il_machine.specs.Sound.{Sound, IsOwnedSo, IsPickedFor, is_for_component, is_key_of, is_in_work_of}
use Rattle.machine_laws.proofs.Finding.{either, found_tail, found_head}
use Rattle.machine_laws.proofs.Keys.{key_is, key_same, key_apart, for_which, at_there, none_or_some}
use Rattle.machine_laws.proofs.Listed.{times_cons}
use Rattle.machine_laws.proofs.Ties.{IsSet, Tied, for_both}
use Rattle.machine_laws.proofs.Parts.{Parts, parts_of, ports_in_list}
use Rattle.stock_laws.proofs.Leaving.{and_false_right}
use Rattle.play_model.specs.Network.{headers_of}
use Rattle.play_world_laws.specs.View.{LinkEnds, filled, link_view, picked_at, worked_at}
use Rattle.play_world_laws.specs.Tunnel.{IsTunnel, IsWorkedAt}
use Rattle.play_world_laws.proofs.Same.{length_map}
use Rattle.play_world_laws.proofs.Counted.{both, length-numbers, AreThose, counted_by}

pub keys_apart : (a b : PortKey) → a.component ≢ b.component → same_key a b ≡ false
keys_apart a b n = rw (ne_eqb a.component b.component n) refl

-- ---- one header, by its queue and owner

abbrev pub in_four : PortKey → PortKey → Queue → Owner → ℕ
in_four o i queue owner =
    weight (is_todo queue && is_owned_by o owner) + weight (is_done queue && is_owned_by o owner)
    + weight (is_todo queue && is_owned_by i owner) + weight (is_done queue && is_owned_by i owner)

unowned : (o i : PortKey) (queue : Queue) (owner : Owner) → is_owned_by o owner ≡ false → is_owned_by i owner ≡ false → in_four o i queue owner ≡ 0
unowned o i Out owner a b = refl
unowned o i Todo owner a b = rw (a, b) refl
unowned o i Done owner a b = rw (a, b) refl

owned_first : (o i : PortKey) (queue : Queue) → queue ≢ Out → same_key o i ≡ false → in_four o i queue (owners.Port o) ≡ 1
owned_first o i Out n a = absurd (n refl)
owned_first o i Todo n a = rw (key_same o, a) refl
owned_first o i Done n a = rw (key_same o, a) refl

owned_second : (o i : PortKey) (queue : Queue) → queue ≢ Out → same_key i o ≡ false → in_four o i queue (owners.Port i) ≡ 1
owned_second o i Out n a = absurd (n refl)
owned_second o i Todo n a = rw (key_same i, a) refl
owned_second o i Done n a = rw (key_same i, a) refl

-- a work of the component that has the port has it, and it was made for the port
abbrev pub is_worked_for : PortKey → HeaderState → Bool
is_worked_for key s = is_for key s && is_work_of key.component s.owner

-- the same by its owner
abbrev pub in_works : PortKey → PortKey → HeaderState → Owner → ℕ
in_works o i s owner = weight (is_for o s && is_work_of o.component owner) + weight (is_for i s && is_work_of i.component owner)

pub no_work : (o i : PortKey) (s : HeaderState) (owner : Owner) → is_work_of o.component owner ≡ false → is_work_of i.component owner ≡ false → in_works o i s owner ≡ 0
no_work o i s owner a b = rw (a, b, and_false_right (is_for o s), and_false_right (is_for i s)) refl

pub no_for : (o i : PortKey) (s : HeaderState) (owner : Owner) → is_for o s ≡ false → is_for i s ≡ false → in_works o i s owner ≡ 0
no_for o i s owner a b = rw (a, b) refl

work_there : (component : ℕ) (key : PortKey) (s : HeaderState) → is_for_component component s ≡ true → s.port ≡ key → (component ≡ key.component) ⊎ (is_key_of component s.peer ≡ true)
work_there component key s h e = elim (or_cases (nat_eq s.port.component component) (is_key_of component s.peer) h) [
  | inl t ↦ inl (sym (eqb-true _ _ t) ∙ ap (λ (k : PortKey). k.component) e)
  | inr t ↦ inr t
]

key_there : (component : ℕ) (key : PortKey) (o : Option PortKey) → is_key_of component o ≡ true → o ≡ Some key → component ≡ key.component
key_there component key o h e = let t : nat_eq key.component component ≡ true = rw e at h in sym (eqb-true _ _ t)

-- ---- a tunnel of a world

module _ (ports : PortKey → Option Port) (hs : List HeaderRecord) (o i : PortKey) (x : Supplier) (T : Tied ports hs) (N : IsTunnel ports o i x) where
  pub apart_on : same_key o i ≡ false
  apart_on = keys_apart o i N.apart

  pub apart_back : same_key i o ≡ false
  apart_back = keys_apart i o (λ e. N.apart (sym e))

  pub to_input : (s : HeaderState) → IsSet ports s → is_for o s ≡ true → is_for i s ≡ true
  to_input s S f = for_both ports hs o N.one (record { peer = i; supplier = x }) s T N.at_one N.on S f

  pub to_output : (s : HeaderState) → IsSet ports s → is_for i s ≡ true → is_for o s ≡ true
  to_output s S f = for_both ports hs i N.other (record { peer = o; supplier = x }) s T N.at_other N.back S f

  -- it was made for the one and the other
  pub for_pair : (s : HeaderState) → IsSet ports s → is_for o s ≡ true → ((s.port ≡ o) × (s.peer ≡ Some i)) ⊎ ((s.port ≡ i) × (s.peer ≡ Some o))
  for_pair s S f =
      let g : is_for i s ≡ true = to_input s S f in
      elim (for_which o s f) [
        | inl a ↦ elim (for_which i s g) [ inl b ↦ absurd (key_apart o i apart_on (sym a ∙ b)) | inr b ↦ inl (a, b) ]
        | inr a ↦ elim (for_which i s g) [
          | inl b ↦ inr (b, a)
          | inr b ↦ let e : Some o ≡ Some i = sym a ∙ b in let d : o ≡ i = cc in absurd (key_apart o i apart_on d)
        ]
      ]

  pub no_client : (s : HeaderState) → IsSet ports s → s.peer ≡ None → is_for o s ≡ false
  no_client s S n = either (is_for o s)
      (λ t. elim (for_pair s S t) [
        | inl a ↦ let e : None ≡ Some i = sym n ∙ a.1 in absurd cc
        | inr a ↦ let e : None ≡ Some o = sym n ∙ a.1 in absurd cc
      ])
      (λ f. f)

  pub owner_is : (s : HeaderState) (k : PortKey) → IsSet ports s → is_for o s ≡ true → is_for k s ≡ true → (k ≡ o) ⊎ (k ≡ i)
  owner_is s k S f g = elim (for_which k s g) [
    | inl a ↦ elim (for_pair s S f) [ inl b ↦ inl (sym a ∙ b.0) | inr b ↦ inr (sym a ∙ b.0) ]
    | inr a ↦ elim (for_pair s S f) [
      | inl b ↦ let e : Some k ≡ Some i = sym a ∙ b.1 in inr cc
      | inr b ↦ let e : Some k ≡ Some o = sym a ∙ b.1 in inl cc
    ]
  ]

  -- a port of the component of the first end is that end
  pub port_is : (s : HeaderState) (port : ℕ) → IsSet ports s → is_for o s ≡ true → is_for (record { component = o.component; port = port }) s ≡ true → port ≡ o.port
  port_is s port S f g = elim (owner_is s (record { component = o.component; port = port }) S f g) [
    | inl e ↦ ap (λ (k : PortKey). k.port) e
    | inr e ↦ absurd (N.apart (ap (λ (k : PortKey). k.component) e))
  ]

  pub not_other : (s : HeaderState) → IsSet ports s → is_for o s ≡ false → is_for i s ≡ false
  not_other s S f = either (is_for i s) (λ t. both (is_for o s) (to_output s S t) f) (λ e. e)

  -- a work that has it is one of a component of the two ends
  pub worker_is : (s : HeaderState) (component : ℕ) → IsSet ports s → is_for o s ≡ true → is_for_component component s ≡ true → (component ≡ o.component) ⊎ (component ≡ i.component)
  worker_is s component S f h = elim (for_pair s S f) [
    | inl a ↦ elim (work_there component o s h a.0) [ inl e ↦ inl e | inr e ↦ inr (key_there component i s.peer e a.1) ]
    | inr a ↦ elim (work_there component i s h a.0) [ inl e ↦ inr e | inr e ↦ inl (key_there component o s.peer e a.1) ]
  ]

  pub one_work : (s : HeaderState) (component : ℕ) → IsSet ports s → is_for o s ≡ true → is_for_component component s ≡ true → in_works o i s (owners.Work component) ≡ 1
  one_work s component S t h =
      let g = to_input s S t in
      elim (worker_is s component S t h) [
        | inl e ↦
            let a : nat_eq component o.component ≡ true = eq-eqb component o.component e in
            let b : nat_eq component i.component ≡ false = ne_eqb component i.component (λ d. N.apart (sym e ∙ d)) in
            rw (t, g, a, b) refl
        | inr e ↦
            let a : nat_eq component i.component ≡ true = eq-eqb component i.component e in
            let b : nat_eq component o.component ≡ false = ne_eqb component o.component (λ d. N.apart (sym d ∙ e)) in
            rw (t, g, a, b) refl
      ]

  four_of : (s : HeaderState) (owner : Owner) → IsSet ports s → IsOwnedSo s owner → weight (is_for o s) ≡ in_four o i s.queue owner + in_works o i s owner
  four_of s owners.Client S O =
      let a = unowned o i s.queue owners.Client refl refl in
      let b = no_work o i s owners.Client refl refl in
      let c : weight (is_for o s) ≡ 0 = rw (no_client s S O.1) refl in
      omega arith
  four_of s (owners.Port k) S O =
      let w = no_work o i s (owners.Port k) refl refl in
      either (is_for o s)
      (λ t.
      let one : weight (is_for o s) ≡ 1 = rw t refl in
      elim (owner_is s k S t O.0) [
        | inl e ↦ let f : in_four o i s.queue (owners.Port k) ≡ 1 = rw e (owned_first o i s.queue O.1 apart_on) in omega arith
        | inr e ↦ let f : in_four o i s.queue (owners.Port k) ≡ 1 = rw e (owned_second o i s.queue O.1 apart_back) in omega arith
      ])
      (λ f.
      let a : same_key k o ≡ false = either (same_key k o) (λ t. both (is_for o s) (subst (λ (j : PortKey). is_for j s ≡ true) (key_is k o t) O.0) f) (λ z. z) in
      let b : same_key k i ≡ false = either (same_key k i) (λ t. both (is_for o s) (to_output s S (subst (λ (j : PortKey). is_for j s ≡ true) (key_is k i t) O.0)) f) (λ z. z) in
      let z : weight (is_for o s) ≡ 0 = rw f refl in
      let u = unowned o i s.queue (owners.Port k) a b in
      omega arith)
  four_of s (owners.Work c) S O =
      let u = unowned o i s.queue (owners.Work c) refl refl in
      either (is_for o s)
      (λ t. let a : weight (is_for o s) ≡ 1 = rw t refl in let b = one_work s c S t O.1 in omega arith)
      (λ f. let a : weight (is_for o s) ≡ 0 = rw f refl in let b = no_for o i s (owners.Work c) f (not_other s S f) in omega arith)
  four_of s (owners.Notice c) S O =
      let a = unowned o i s.queue (owners.Notice c) refl refl in
      let b = no_work o i s (owners.Notice c) refl refl in
      let c : weight (is_for o s) ≡ 0 = rw (no_client s S O.1) refl in
      omega arith

  -- ---- all of them

  counted_four : (rs : List HeaderRecord) → Once rs → ((n : ℕ) (r : HeaderRecord) → find_header n rs ≡ Some r → IsSet ports r.state) →
      count_headers (is_for o) rs ≡ count_headers (in_todo o) rs + count_headers (in_done o) rs + count_headers (in_todo i) rs + count_headers (in_done i) rs
      + count_headers (is_worked_for o) rs + count_headers (is_worked_for i) rs
  counted_four [] once all = omega arith
  counted_four (r ∷ rs) once all =
      let S : IsSet ports r.state = all r.state.number r (found_head r.state.number r rs refl) in
      let here : weight (is_for o r.state) ≡ in_four o i r.state.queue r.state.owner + in_works o i r.state r.state.owner = four_of r.state r.state.owner S S.owner in
      let rest = counted_four rs once.1 (λ n y f.
      let apart : r.state.number ≢ n = λ e. let a : find_header n rs ≡ None = rw e at once.0 in absurd cc in
      all n y (found_tail n r rs apart ∙ f)) in
      omega arith

  -- ---- those of a work

  -- every header of the work that was made for the first end is counted to it
  times_at : (n : ℕ) (xs : List Picked) (s : HeaderState) → option_map state_of (find_header n hs) ≡ Some s → IsSet ports s → is_for o s ≡ true → All (IsPickedFor (seen hs) o.component) xs
      → times n (picked_at o.port xs) ≡ times n (map (λ y. y.number) xs)
  times_at n [] s h S f A = refl
  times_at n (y ∷ xs) s h S f A =
      let i = times_at n xs s h S f (All-tail (IsPickedFor (seen hs) o.component) y xs A) in
      let c = times_cons n y.number (map (λ z. z.number) xs) in
      let d = times_cons n y.number (picked_at o.port xs) in
      either (nat_eq y.port o.port)
      (λ t. rw t (omega arith))
      (λ g. either (nat_eq y.number n)
      (λ t.
      let e : y.number ≡ n = eqb-true _ _ t in
      let P = All-head (IsPickedFor (seen hs) o.component) y xs A in
      let Q : MatchOption (option_map state_of (find_header n hs)) ⊥ (λ z. is_for (record { component = o.component; port = y.port }) z ≡ true) =
      subst (λ (k : ℕ). MatchOption (option_map state_of (find_header k hs)) ⊥ (λ z. is_for (record { component = o.component; port = y.port }) z ≡ true)) e P in
      let is = at_there (option_map state_of (find_header n hs)) (λ z. is_for (record { component = o.component; port = y.port }) z ≡ true) s h Q in
      absurd (eqb-false _ _ g (port_is s y.port S f is)))
      (λ u. let z : weight (nat_eq y.number n) ≡ 0 = rw u refl in rw g (omega arith)))

  -- no other header is
  times_not : (n : ℕ) (xs : List Picked) (s : HeaderState) → option_map state_of (find_header n hs) ≡ Some s → is_for o s ≡ false → All (IsPickedFor (seen hs) o.component) xs → times n (picked_at o.port xs) ≡ 0
  times_not n [] s h f A = refl
  times_not n (y ∷ xs) s h f A =
      let i = times_not n xs s h f (All-tail (IsPickedFor (seen hs) o.component) y xs A) in
      let d = times_cons n y.number (picked_at o.port xs) in
      either (nat_eq y.port o.port)
      (λ t. either (nat_eq y.number n)
      (λ u.
      let e : y.number ≡ n = eqb-true _ _ u in
      let p : y.port ≡ o.port = eqb-true _ _ t in
      let P = All-head (IsPickedFor (seen hs) o.component) y xs A in
      let Q : MatchOption (option_map state_of (find_header n hs)) ⊥ (λ z. is_for (record { component = o.component; port = o.port }) z ≡ true) =
      subst (λ (k : ℕ). MatchOption (option_map state_of (find_header k hs)) ⊥ (λ z. is_for (record { component = o.component; port = o.port }) z ≡ true)) e
      (subst (λ (k : ℕ). MatchOption (option_map state_of (find_header y.number hs)) ⊥ (λ z. is_for (record { component = o.component; port = k }) z ≡ true)) p P) in
      both (is_for o s) (at_there (option_map state_of (find_header n hs)) (λ z. is_for (record { component = o.component; port = o.port }) z ≡ true) s h Q) f)
      (λ u. let z : weight (nat_eq y.number n) ≡ 0 = rw u refl in rw t (omega arith)))
      (λ g. rw g i)

  times_none : (n : ℕ) (xs : List Picked) → option_map state_of (find_header n hs) ≡ None → All (IsPickedFor (seen hs) o.component) xs → times n (picked_at o.port xs) ≡ 0
  times_none n [] h A = refl
  times_none n (y ∷ xs) h A =
      let i = times_none n xs h (All-tail (IsPickedFor (seen hs) o.component) y xs A) in
      let d = times_cons n y.number (picked_at o.port xs) in
      either (nat_eq y.port o.port)
      (λ t. either (nat_eq y.number n)
      (λ u.
      let e : y.number ≡ n = eqb-true _ _ u in
      let P = All-head (IsPickedFor (seen hs) o.component) y xs A in
      let Q : MatchOption (option_map state_of (find_header n hs)) ⊥ (λ z. is_for (record { component = o.component; port = y.port }) z ≡ true) =
      subst (λ (k : ℕ). MatchOption (option_map state_of (find_header k hs)) ⊥ (λ z. is_for (record { component = o.component; port = y.port }) z ≡ true)) e P in
      absurd (rw h at Q))
      (λ u. let z : weight (nat_eq y.number n) ≡ 0 = rw u refl in rw t (omega arith)))
      (λ g. rw g i)

  set_of : ((n : ℕ) (r : HeaderRecord) → find_header n hs ≡ Some r → IsSet ports r.state) → (n : ℕ) (s : HeaderState) → option_map state_of (find_header n hs) ≡ Some s → IsSet ports s
  set_of all n s e = elim (none_or_some (find_header n hs)) [
    | inl z ↦ let b : None ≡ Some s = sym (ap (option_map state_of) z) ∙ e in absurd cc
    | inr r ↦
        let b : Some (r.0).state ≡ Some s = sym (ap (option_map state_of) r.1) ∙ e in
        let q : (r.0).state ≡ s = cc in
        subst (λ (y : HeaderState). IsSet ports y) q (all n r.0 r.1)
  ]

  no_work_of : (h : Option HeaderState) → 0 ≡ weight (holds_at h (is_in_work_of o.component)) → 0 ≡ weight (holds_at h (is_worked_for o))
  no_work_of None c = c
  no_work_of (Some s) c = either (is_work_of o.component s.owner)
      (λ t. let w : weight (is_work_of o.component s.owner) ≡ 1 = rw t refl in absurd (omega arith))
      (λ f. rw (f, and_false_right (is_for o s)) refl)

  -- the headers that a work of the first end's component has of it
  pub those_by : (work : Option Work) → ((n : ℕ) → times n (work_numbers work) ≡ weight (holds_at (option_map state_of (find_header n hs)) (is_in_work_of o.component)))
      → ((w : Work) → work ≡ Some w → All (IsPickedFor (seen hs) o.component) w.headers) → AreThose (is_worked_for o) (worked_at work o.port) hs
  those_by None C M n = no_work_of (option_map state_of (find_header n hs)) (C n)
  those_by (Some w) C M n =
      let A = M w refl in
      elim (none_or_some (option_map state_of (find_header n hs))) [
        | inl e ↦ times_none n w.headers e A ∙ rw e refl
        | inr e ↦ either (is_for o e.0)
            (λ t.
            let S = set_of T.placed n e.0 e.1 in
            let c : times n (map (λ y. y.number) w.headers) ≡ weight (is_work_of o.component (e.0).owner) = C n ∙ rw e.1 refl in
            times_at n w.headers e.0 e.1 S t A ∙ (c ∙ rw (e.1, t) refl))
            (λ f. times_not n w.headers e.0 e.1 f A ∙ rw (e.1, f) refl)
      ]

-- ---- a link of a sound world

pub worked_count : (w : World) (o i : PortKey) (x : Supplier) (numbers : List ℕ) → Sound w → IsTunnel (ports_in_list w.components) o i x → IsWorkedAt w.components o numbers
    → count_headers (is_worked_for o) w.headers ≡ length numbers
worked_count w o i x numbers S N W =
    let P : Parts w.components w.headers w.numbered w.made = parts_of w S in
    let c : Component = W.component in
    let claimed : (n : ℕ) → times n (work_numbers c.work) ≡ weight (holds_at (option_map state_of (find_header n w.headers)) (is_in_work_of o.component)) =
    subst (λ (k : ℕ). (n : ℕ) → times n (work_numbers c.work) ≡ weight (holds_at (option_map state_of (find_header n w.headers)) (is_in_work_of k))) W.named ((P.works).claimed W.place c W.there) in
    let made : (work : Work) → c.work ≡ Some work → All (IsPickedFor (seen w.headers) o.component) work.headers =
    λ work e. subst (λ (k : ℕ). All (IsPickedFor (seen w.headers) k) work.headers) W.named ((P.works).made W.place c work W.there e) in
    let those = those_by (ports_in_list w.components) w.headers o i x P.tied N c.work claimed made in
    counted_by (is_worked_for o) (worked_at c.work o.port) w.headers P.once those ∙ ap length (sym W.numbers)

pub turned : (ports : PortKey → Option Port) (a b : PortKey) (x : Supplier) → IsTunnel ports a b x → IsTunnel ports b a x
turned ports a b x N = record { one = N.other; other = N.one; at_one = N.at_other; at_other = N.at_one; on = N.back; back = N.on; apart = λ e. N.apart (sym e) }

pub made_for_link : (w : World) (x : LinkEnds) (s : Supplier) → Sound w → IsTunnel (ports_in_list w.components) x.output x.input s → IsWorkedAt w.components x.output x.filling → IsWorkedAt w.components x.input x.draining
    → (seen w.headers).count (is_for x.output) ≡ headers_of (link_view x w.headers)
made_for_link w x s S N F D =
    let P : Parts w.components w.headers w.numbered w.made = parts_of w S in
    let hs : List HeaderRecord = w.headers in
    let o : PortKey = x.output in
    let i : PortKey = x.input in
    let all = counted_four (ports_in_list w.components) hs o i s P.tied N hs P.once P.tied.placed in
    let a = length-numbers (in_todo o) hs in
    let b = length-numbers (in_done o) hs in
    let c = length-numbers (in_todo i) hs in
    let d = length-numbers (in_done i) hs in
    let u = worked_count w o i s x.filling S N F in
    let v = worked_count w i o s x.draining S (turned (ports_in_list w.components) o i s N) D in
    let e = length_map (filled x.unit hs) ((seen hs).done o) in
    let f = length_map (filled x.unit hs) (x.draining ++ (seen hs).todo i) in
    let h = length-append x.draining ((seen hs).todo i) in
    let g = length-append (map (filled x.unit hs) (x.draining ++ (seen hs).todo i)) (map (filled x.unit hs) ((seen hs).done o)) in
    omega arith
