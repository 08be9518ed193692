-- A sound world is taken apart, and put together: components by their places, ports by their keys, headers by their numbers.
use Rattle.std.proofs.Common.{◌≡◌, ℕ, ◌≤◌, ◌<◌, List, slice_get, Option, Some, None, ◌∙◌, subst, arith}
use Rattle.il_machine.specs.declared.port.PortKey.{PortKey}
use Rattle.il_machine.specs.declared.port.Link.{Link}
use Rattle.il_machine.specs.declared.port.Port.{Port}
use Rattle.il_machine.specs.World.{Component, HeaderRecord, Work, World, ports_of}
use Rattle.il_machine.specs.Headers.{seen, find_header, count_headers, is_for, Once}
use Rattle.il_machine.specs.Look.{look}
use Rattle.il_machine.specs.Sound.{Sound, IsSound, IsConnected, IsJoinedWell, HasFew, AreNoted, IsPlaced, AreRising, IsUnitSound, port_at}
use Rattle.machine_laws.proofs.Every.{at_place, from_places}
use Rattle.machine_laws.proofs.Finding.{found_is, found_all, found_number}
use Rattle.machine_laws.proofs.Lookups.{has_port, port_there_at, port_parts}
use Rattle.machine_laws.proofs.Ties.{Tied, IsJoinedBy}
use Rattle.machine_laws.proofs.Works.{Works, IsLawfulWork, sound_work, lawful_work}
use Rattle.machine_laws.proofs.Units.{Resources}

-- the ports by their keys
abbrev pub ports_in_list : List Component → PortKey → Option Port
ports_in_list cs key = port_at key cs

-- the notes of each component have the headers that they should
abbrev pub Noted : List Component → List HeaderRecord → Type 0
Noted cs hs = (i : ℕ) (c : Component) → slice_get cs i ≡ Some c → AreNoted (seen hs) c

pub record Parts (cs : List Component) (hs : List HeaderRecord) (numbered made : ℕ) : Type 0 where
  pub rising : AreRising 0 cs numbered
  pub components : (i : ℕ) (c : Component) → slice_get cs i ≡ Some c → IsSound c
  pub tied : Tied (ports_in_list cs) hs
  pub noted : Noted cs hs
  pub works : Works cs hs
  pub lawful : (i : ℕ) (c : Component) (work : Work) → slice_get cs i ≡ Some c → c.work ≡ Some work → IsLawfulWork c work
  pub once : Once hs
  pub below : (n : ℕ) (r : HeaderRecord) → find_header n hs ≡ Some r → n < made

well_by : (cs : List Component) (p : Port) (o : Option Link) → IsJoinedWell cs p o → IsJoinedBy (ports_in_list cs) p o
well_by cs p None h = tt
well_by cs p (Some link) h = h

by_well : (cs : List Component) (p : Port) (o : Option Link) → IsJoinedBy (ports_in_list cs) p o → IsJoinedWell cs p o
by_well cs p None h = tt
by_well cs p (Some link) h = h

-- the key of a port that was looked up
keyed_port : (cs : List Component) (key : PortKey) (p : Port) → port_at key cs ≡ Some p → p.key ≡ key
keyed_port cs key p e =
    let h = has_port key cs p e in
    let k = (port_parts h.component key.port p h.port).key in
    let n = h.number in
    k ∙ (λ i. record { component = n i; port = key.port })

pub parts_of : (w : World) → Sound w → Parts w.components w.headers w.numbered w.made
parts_of w S = record {
  rising = S.rising;
  components = λ i c e. at_place IsSound w.components i c S.components e;
  tied = record {
    keyed = keyed_port w.components;
    joined = λ key p e.
        let h = has_port key w.components p e in
        let C = at_place (IsConnected w) w.components h.place h.component S.connected h.there in
        well_by w.components p p.state.link (at_place (λ q. IsJoinedWell w.components q q.state.link) (ports_of h.component) key.port p C.joined h.port);
    few = λ key p e.
        let h = has_port key w.components p e in
        let C = at_place (IsConnected w) w.components h.place h.component S.connected h.there in
        let f = at_place (HasFew (look w).headers) (ports_of h.component) key.port p C.few h.port in
        subst (λ (k : PortKey). count_headers (is_for k) w.headers ≤ p.setting.definition.count) (keyed_port w.components key p e) f;
    placed = λ n r f. let P = found_is (λ x. IsPlaced w.components x.state) n w.headers r S.placed f in record { home = P.home; port = P.port; owner = P.owner };
  };
  noted = λ i c e. (at_place (IsConnected w) w.components i c S.connected e).noted;
  works = record {
    claimed = λ i c e. (at_place (IsConnected w) w.components i c S.connected e).claimed;
    made = λ i c work e f. ((at_place (IsConnected w) w.components i c S.connected e).work work f).made;
  };
  lawful = λ i c work e f. lawful_work w.headers c work ((at_place (IsConnected w) w.components i c S.connected e).work work f);
  once = S.once;
  below = λ n r f. let b = found_is (λ x. x.state.number < w.made) n w.headers r S.numbered f in let e = found_number n w.headers r f in omega arith;
}

pub sound_from : (w : World) → Parts w.components w.headers w.numbered w.made → Resources w.components w.streams w.waits w.units → Sound w
sound_from w P R = record {
  rising = P.rising;
  components = from_places IsSound w.components P.components;
  connected = from_places (IsConnected w) w.components (λ i c e. record {
    joined = from_places (λ q. IsJoinedWell w.components q q.state.link) (ports_of c) (λ k p f.
        let a = port_there_at w.numbered i w.components c k p P.rising e f in
        by_well w.components p p.state.link (P.tied.joined p.key p a));
    few = from_places (HasFew (look w).headers) (ports_of c) (λ k p f.
        let a = port_there_at w.numbered i w.components c k p P.rising e f in
        P.tied.few p.key p a);
    noted = P.noted i c e;
    claimed = (P.works).claimed i c e;
    work = λ work f. sound_work w.headers c work (P.lawful i c work e f) ((P.works).made i c work e f);
  });
  once = P.once;
  numbered = found_all (λ x. x.state.number < w.made) w.headers P.once (λ n r f. let b = P.below n r f in let e = found_number n w.headers r f in omega arith);
  placed = found_all (λ x. IsPlaced w.components x.state) w.headers P.once (λ n r f. let q = P.tied.placed n r f in record { home = q.home; port = q.port; owner = q.owner });
  units = from_places (IsUnitSound w.waits) w.components R.each;
  enough = R.enough;
  apart = R.apart;
  streams = R.streams;
}
