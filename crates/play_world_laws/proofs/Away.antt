-- The headers of a tunnel that are away are those in the two lists of the end that doesn't supply it, and those that a work
-- of either end has.
use Rattle.std.proofs.Common.{◌≡◌, ◌≢◌, inl, inr, ℕ, ◌+◌, Bool, true, false, not, ◌&&◌, ◌||◌, List, [], ◌∷◌, length, Option, Some, None, MatchOption, refl, ◌∙◌, ap, subst, arith}
use Rattle.omx_types.specs.declared.param.Supplier.{Supplier}
use Rattle.il_machine.specs.declared.port.PortKey.{PortKey}
use Rattle.il_machine.specs.declared.port.Port.{Port}
use Rattle.il_machine.specs.declared.header.Home.TheVariants as homes
use Rattle.il_machine.specs.declared.header.Owner.{Owner}
use Rattle.il_machine.specs.declared.header.Owner.TheVariants as owners
use Rattle.il_machine.specs.declared.header.Queue.{Queue}
use Rattle.il_machine.specs.declared.header.Queue.TheVariants.{Out, Todo, Done}
use Rattle.il_machine.specs.declared.header.HeaderState.{HeaderState}
use Rattle.il_machine.specs.World.{HeaderRecord, World}
use Rattle.il_machine.specs.Headers.{seen, is_for, is_owned_by, is_home_owner, is_notice, is_away, is_todo, is_done, in_todo, in_done, find_header, count_headers, weight, same_key, Once}
use Rattle.il_machine.specs.Ports.{is_supplier}
use Rattle.il_machine.specs.Sound.{Sound, IsOwnedSo, IsMadeFor, home_for}
use Rattle.machine_laws.proofs.Finding.{either, found_tail, found_head}
use Rattle.machine_laws.proofs.Keys.{key_is, key_same, at_there}
use Rattle.machine_laws.proofs.Ties.{IsSet, Tied}
use Rattle.machine_laws.proofs.Parts.{Parts, parts_of, ports_in_list}
use Rattle.play_world_laws.specs.Tunnel.{IsTunnel, Supplies, IsWorkedAt}
use Rattle.play_world_laws.proofs.Counted.{both, length-numbers}
use Rattle.play_world_laws.proofs.Counts.{apart_on, for_pair, no_client, owner_is, to_output, not_other, in_works, no_work, no_for, one_work, is_worked_for, worked_count, turned}

abbrev in_two : PortKey → Queue → Owner → ℕ
in_two b queue owner = weight (is_todo queue && is_owned_by b owner) + weight (is_done queue && is_owned_by b owner)

none_of_two : (b : PortKey) (queue : Queue) (owner : Owner) → is_owned_by b owner ≡ false → in_two b queue owner ≡ 0
none_of_two b Out owner e = refl
none_of_two b Todo owner e = rw e refl
none_of_two b Done owner e = rw e refl

one_of_two : (b : PortKey) (queue : Queue) → queue ≢ Out → in_two b queue (owners.Port b) ≡ 1
one_of_two b Out n = absurd (n refl)
one_of_two b Todo n = rw (key_same b) refl
one_of_two b Done n = rw (key_same b) refl

abbrev away_by : HeaderState → Owner → Bool
away_by s owner = not (is_home_owner s.home owner || is_notice owner)

module _ (ports : PortKey → Option Port) (hs : List HeaderRecord) (a b : PortKey) (x : Supplier) (T : Tied ports hs) (N : IsTunnel ports a b x) (M : Supplies N.one N.other) where
  -- it was made by the end that supplies
  made_at : (s : HeaderState) → IsSet ports s → is_for a s ≡ true → (s.port ≡ a) × (s.peer ≡ Some b)
  made_at s S f = elim (for_pair ports hs a b x T N s S f) [
    | inl p ↦ p
    | inr p ↦
        let m : MatchOption (ports b) ⊥ (IsMadeFor (Some a)) = rw (p.0, p.1) at S.port in
        let i : IsMadeFor (Some a) N.other = at_there (ports b) (IsMadeFor (Some a)) N.other N.at_other m in
        both (is_supplier N.other) i.0 M.not_other
  ]

  home_at : (s : HeaderState) → IsSet ports s → is_for a s ≡ true → s.home ≡ homes.Port a
  home_at s S t = let m = made_at s S t in S.home ∙ (ap (home_for s.port) m.1 ∙ ap (λ (p : PortKey). homes.Port p) m.0)

  away_of : (s : HeaderState) (owner : Owner) → IsSet ports s → IsOwnedSo s owner → weight (is_for a s && away_by s owner) ≡ in_two b s.queue owner + in_works a b s owner
  away_of s owners.Client S O =
      let z : weight (is_for a s && away_by s owners.Client) ≡ 0 = rw (no_client ports hs a b x T N s S O.1) refl in
      let u = none_of_two b s.queue owners.Client refl in
      let w = no_work a b s owners.Client refl refl in
      omega arith
  away_of s (owners.Port k) S O =
      let w = no_work a b s (owners.Port k) refl refl in
      either (is_for a s)
      (λ t.
      let home = home_at s S t in
      elim (owner_is ports hs a b x T N s k S t O.0) [
        | inl e ↦
            let z : weight (is_for a s && away_by s (owners.Port k)) ≡ 0 = rw (t, home, e, key_same a) refl in
            let u : in_two b s.queue (owners.Port k) ≡ 0 = none_of_two b s.queue (owners.Port k) (rw e (apart_on ports hs a b x T N)) in
            omega arith
        | inr e ↦
            let z : weight (is_for a s && away_by s (owners.Port k)) ≡ 1 = rw (t, home, e, apart_on ports hs a b x T N) refl in
            let u : in_two b s.queue (owners.Port k) ≡ 1 = rw e (one_of_two b s.queue O.1) in
            omega arith
      ])
      (λ f.
      let no : same_key k b ≡ false = either (same_key k b) (λ t. both (is_for a s) (to_output ports hs a b x T N s S (subst (λ (j : PortKey). is_for j s ≡ true) (key_is k b t) O.0)) f) (λ y. y) in
      let z : weight (is_for a s && away_by s (owners.Port k)) ≡ 0 = rw f refl in
      let u = none_of_two b s.queue (owners.Port k) no in
      omega arith)
  away_of s (owners.Work c) S O =
      let u = none_of_two b s.queue (owners.Work c) refl in
      either (is_for a s)
      (λ t.
      let z : weight (is_for a s && away_by s (owners.Work c)) ≡ 1 = rw (t, home_at s S t) refl in
      let w = one_work ports hs a b x T N s c S t O.1 in
      omega arith)
      (λ f.
      let z : weight (is_for a s && away_by s (owners.Work c)) ≡ 0 = rw f refl in
      let w = no_for a b s (owners.Work c) f (not_other ports hs a b x T N s S f) in
      omega arith)
  away_of s (owners.Notice c) S O =
      let z : weight (is_for a s && away_by s (owners.Notice c)) ≡ 0 = rw (no_client ports hs a b x T N s S O.1) refl in
      let u = none_of_two b s.queue (owners.Notice c) refl in
      let w = no_work a b s (owners.Notice c) refl refl in
      omega arith

  counted_away : (rs : List HeaderRecord) → Once rs → ((n : ℕ) (r : HeaderRecord) → find_header n rs ≡ Some r → IsSet ports r.state) →
      count_headers (λ r. is_for a r && is_away r) rs ≡ count_headers (in_todo b) rs + count_headers (in_done b) rs + count_headers (is_worked_for a) rs + count_headers (is_worked_for b) rs
  counted_away [] once all = omega arith
  counted_away (r ∷ rs) once all =
      let S : IsSet ports r.state = all r.state.number r (found_head r.state.number r rs refl) in
      let here : weight (is_for a r.state && away_by r.state r.state.owner) ≡ in_two b r.state.queue r.state.owner + in_works a b r.state r.state.owner = away_of r.state r.state.owner S S.owner in
      let rest = counted_away rs once.1 (λ n y f.
      let apart : r.state.number ≢ n = λ e. let q : find_header n rs ≡ None = rw e at once.0 in absurd cc in
      all n y (found_tail n r rs apart ∙ f)) in
      omega arith

pub away_in_lists : (w : World) (a b : PortKey) (x : Supplier) (one other : List ℕ) → Sound w → (N : IsTunnel (ports_in_list w.components) a b x) → Supplies N.one N.other
    → IsWorkedAt w.components a one → IsWorkedAt w.components b other
    → (seen w.headers).count (λ r. is_for a r && is_away r) ≡ length ((seen w.headers).todo b) + length ((seen w.headers).done b) + length one + length other
away_in_lists w a b x one other S N M F D =
    let P : Parts w.components w.headers w.numbered w.made = parts_of w S in
    let hs : List HeaderRecord = w.headers in
    let c = counted_away (ports_in_list w.components) hs a b x P.tied N M hs P.once P.tied.placed in
    let d = length-numbers (in_todo b) hs in
    let e = length-numbers (in_done b) hs in
    let u = worked_count w a b x one S N F in
    let v = worked_count w b a x other S (turned (ports_in_list w.components) a b x N) D in
    omega arith
