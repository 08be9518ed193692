-- Where the headers of a sound world are at home, and that no work has one.
use Rattle.std.proofs.Common.{◌≡◌, inl, inr, ℕ, ◌+◌, Bool, true, false, not, cond, List, ◌∷◌, slice_get, Option, Some, None, option_map, refl, sym, ◌∙◌, ap, subst, eqb-true, eq-eqb, arith}
use Rattle.std.specs.Prelude.{nat_eq}
use Rattle.std.proofs.lemmas.List.Sums.{sum_by-cons}
use Rattle.omx_types.specs.declared.param.Supplier.{Supplier}
use Rattle.omx_types.specs.declared.param.Supplier.TheVariants as suppliers
use Rattle.il_machine.specs.declared.port.PortKey.{PortKey}
use Rattle.il_machine.specs.declared.port.Link.{Link}
use Rattle.il_machine.specs.declared.port.Port.{Port}
use Rattle.il_machine.specs.declared.header.HeaderState.{HeaderState}
use Rattle.il_machine.specs.declared.header.Home.TheVariants as homes
use Rattle.il_machine.specs.declared.header.Owner.{Owner}
use Rattle.il_machine.specs.declared.header.Owner.TheVariants as owners
use Rattle.il_machine.specs.Lists.{holds_at}
use Rattle.il_machine.specs.World.{Component, HeaderRecord, World, number_of}
use Rattle.il_machine.specs.Headers.{find_header, state_of, is_notice_of, weight}
use Rattle.il_machine.specs.Look.{look}
use Rattle.il_machine.specs.Ports.{is_supplier, is_supplied_by, is_input_port}
use Rattle.il_machine.specs.Sound.{Sound, IsOwnedSo, IsMadeFor, home_for, is_in_notes_of}
use Rattle.il_machine.specs.Census.{note_numbers, times}
use Rattle.il_machine.specs.Trails.{With, home_stop}
use Rattle.machine_laws.proofs.Keys.{for_which, there_is, at_there, none_or_some}
use Rattle.machine_laws.proofs.Ties.{IsSet, Tied, other_side, made_peer}
use Rattle.machine_laws.proofs.Parts.{parts_of, ports_in_list}

-- the header of a state that is seen
pub found_state : (number : ℕ) (w : World) (s : HeaderState) → (look w).headers.header number ≡ Some s → (r : HeaderRecord) × (find_header number w.headers ≡ Some r) × (r.state ≡ s)
found_state number w s e = elim (none_or_some (find_header number w.headers)) [
  | inl none ↦ let a : None ≡ Some s = sym (ap (option_map state_of) none) ∙ e in absurd cc
  | inr some ↦ let a : Some ((some.0).state) ≡ Some s = sym (ap (option_map state_of) some.1) ∙ e in let b : (some.0).state ≡ s = cc in (some.0, some.1, b)
]

pub set_in : (w : World) (n : ℕ) (r : HeaderRecord) → Sound w → find_header n w.headers ≡ Some r → IsSet (ports_in_list w.components) r.state
set_in w n r S f = ((parts_of w S).tied).placed n r f

-- a header with the client is at home
pub client_home : (ports : PortKey → Option Port) (s : HeaderState) → IsSet ports s → s.owner ≡ owners.Client → With s.owner ≡ home_stop s.home
client_home ports s I o =
    let own : IsOwnedSo s owners.Client = subst (λ (x : Owner). IsOwnedSo s x) o I.owner in
    let home : s.home ≡ homes.Client = I.home ∙ ap (home_for s.port) own.1 in
    rw (o, home) refl

-- one supplier of a tunnel
one_supplies : (b : Bool) (l k : Link) → k.supplier ≡ l.supplier → is_supplied_by b l ≡ true → is_supplied_by (not b) k ≡ true → ⊥
one_supplies b l k e x y = both_ends b l.supplier k.supplier e x y
  where
    both_ends : (b : Bool) (s t : Supplier) → t ≡ s → is_supplied_by b (record l { supplier = s }) ≡ true → is_supplied_by (not b) (record k { supplier = t }) ≡ true → ⊥
    both_ends true suppliers.Input t e x y = let z : is_supplied_by false (record k { supplier = suppliers.Input }) ≡ true = rw e at y in cc
    both_ends true suppliers.Output t e x y = cc
    both_ends true suppliers.Unspecified t e x y = cc
    both_ends false suppliers.Output t e x y = let z : is_supplied_by true (record k { supplier = suppliers.Output }) ≡ true = rw e at y in cc
    both_ends false suppliers.Input t e x y = cc
    both_ends false suppliers.Unspecified t e x y = cc

supplied_here : (p : Port) (link : Link) → p.state.link ≡ Some link → is_supplier p ≡ true → is_supplied_by (is_input_port p) link ≡ true
supplied_here p link l s = rw l at s

pub supplier_joined : (p : Port) → is_supplier p ≡ true → (link : Link) × (p.state.link ≡ Some link)
supplier_joined p s = elim (none_or_some p.state.link) [
  | inl none ↦ let a : false ≡ true = rw none at s in absurd cc
  | inr some ↦ some
]

-- a header in a port that supplies its tunnel is at home
pub supplier_home : (ports : PortKey → Option Port) (w : World) (key : PortKey) (p : Port) (s : HeaderState) → Tied ports w.headers → ports key ≡ Some p → is_supplier p ≡ true → IsSet ports s → s.owner ≡ owners.Port key → With s.owner ≡ home_stop s.home
supplier_home ports w key p s T there supplies I o =
    let own : IsOwnedSo s (owners.Port key) = subst (λ (x : Owner). IsOwnedSo s x) o I.owner in
    let mine = supplier_joined p supplies in
    elim (for_which key s own.0) [
      | inl h ↦
          let M : IsMadeFor s.peer p = at_there (ports s.port) (IsMadeFor s.peer) p (rw h there) I.port in
          elim (none_or_some s.peer) [
            | inl none ↦ let n : p.state.link ≡ None = rw none at M in let a : None ≡ Some mine.0 = sym n ∙ mine.1 in absurd cc
            | inr some ↦
                let home : s.home ≡ homes.Port key = I.home ∙ (rw (some.1, h) refl) in
                rw (o, home) refl
          ]
      | inr h ↦
          let other = there_is (ports s.port) (IsMadeFor s.peer) I.port in
          let link = made_peer s.peer key other.0 other.2 h in
          let M : IsMadeFor (Some key) other.0 = subst (λ (x : Option PortKey). IsMadeFor x other.0) h other.2 in
          let q = other_side ports w.headers s.port other.0 link.0 T other.1 link.1 in
          let same : Some q.0 ≡ Some p = sym q.1 ∙ rw link.2 there in
          let is : q.0 ≡ p = cc in
          let J = q.2 in
          let back : p.state.link ≡ Some (record { peer = (other.0).key; supplier = (link.0).supplier }) = rw is at J.back in
          let direction : is_input_port p ≡ not (is_input_port other.0) = rw is at J.direction in
          let x = supplied_here other.0 link.0 link.1 M.0 in
          let y = supplied_here p (record { peer = (other.0).key; supplier = (link.0).supplier }) back supplies in
          absurd (one_supplies (is_input_port other.0) link.0 (record { peer = (other.0).key; supplier = (link.0).supplier }) refl x (rw direction at y))
    ]

-- ---- a header in a note

notice_is : (number : ℕ) (o : Owner) → is_notice_of number o ≡ true → o ≡ owners.Notice number
notice_is number owners.Client h = absurd cc
notice_is number (owners.Port key) h = absurd cc
notice_is number (owners.Work c) h = absurd cc
notice_is number (owners.Notice c) h = ap (λ (n : ℕ). owners.Notice n) (eqb-true _ _ h)

first_times : (number : ℕ) (ns : List ℕ) → times number (number ∷ ns) ≡ 1 + times number ns
first_times number ns = sum_by-cons (λ n. cond (nat_eq n number) 1 0) number ns ∙ (rw (eq-eqb number number refl) refl)

weighs : (b : Bool) (n : ℕ) → 1 + n ≡ weight b → b ≡ true
weighs true n e = refl
weighs false n e = absurd (omega arith)

-- the header in the first note is the note's
pub noted_owner : (w : World) (i : ℕ) (c : Component) (number : ℕ) (rest : List ℕ) (r : HeaderRecord) → Sound w → slice_get w.components i ≡ Some c → note_numbers c.notes ≡ number ∷ rest → find_header number w.headers ≡ Some r → r.state.owner ≡ owners.Notice (number_of c)
noted_owner w i c number rest r S at n f =
    let N : times number (note_numbers c.notes) ≡ weight (holds_at (option_map state_of (find_header number w.headers)) (is_in_notes_of (number_of c))) = (parts_of w S).noted i c at number in
    let M : times number (number ∷ rest) ≡ weight (is_notice_of (number_of c) r.state.owner) = rw (n, f) at N in
    notice_is (number_of c) r.state.owner (weighs (is_notice_of (number_of c) r.state.owner) (times number rest) (sym (first_times number rest) ∙ M))
