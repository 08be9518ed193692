-- The joints of a world stay where each component keeps its handle, its settings and the links of its ports; and what they say of headers.
use Rattle.std.proofs.Common.{◌≡◌, ◌≢◌, inl, inr, ℕ, ◌<◌, Bool, true, false, not, nat_eq, List, length, map, set, slice_get, Option, Some, None, option_map, All, refl, sym, ◌∙◌, ap, subst, length-set, eqb-true, eq-eqb, arith}
use Rattle.std.proofs.lemmas.Bool.{or_cases}
use Rattle.il_machine.specs.declared.header.HeaderState.{HeaderState}
use Rattle.il_machine.specs.declared.header.Owner.{Owner}
use Rattle.il_machine.specs.declared.header.Owner.TheVariants as owners
use Rattle.il_machine.specs.declared.header.Queue.TheVariants.{Out}
use Rattle.il_machine.specs.declared.port.Link.{Link}
use Rattle.il_machine.specs.declared.port.Port.{Port}
use Rattle.il_machine.specs.declared.port.PortKey.{PortKey}
use Rattle.il_machine.specs.declared.port.PortState.{PortState}
use Rattle.il_machine.specs.Census.{times, work_numbers}
use Rattle.il_machine.specs.Headers.{find_header, seen, weight}
use Rattle.il_machine.specs.Lists.{holds_at}
use Rattle.il_machine.specs.Sound.{Sound, IsMadeFor, IsOwnedSo, is_for_component, is_in_work_of, is_key_of, port_at}
use Rattle.il_machine.specs.World.{Component, HeaderRecord, Work, World, number_of, port_of}
use Rattle.il_machine.proofs.Joined.{port_there}
use Rattle.machine_laws.specs.Changes.{IsChange, link_of}
use Rattle.machine_laws.proofs.Every.{at_place, at_set_over}
use Rattle.machine_laws.proofs.Keys.{for_which, there_is}
use Rattle.machine_laws.proofs.Lookups.{has_port, port_at_is, port_parts}
use Rattle.machine_laws.proofs.Parts.{parts_of}
use Rattle.play_build_laws.proofs.Places.{from_mapped, get_there, mapped_at}
use Rattle.play_build_laws.specs.Dismantling.{IsSomeEnd}
use Rattle.play_build_laws.specs.Halting.{HasLinks, HasTunnelEnd, IsLinked, KeepsFiles}

-- ---- what is kept

-- the component has the number, the settings of ports and the links that it had
pub record KeepsTies (a b : Component) : Type 0 where
  pub number : number_of b ≡ number_of a
  pub settings : b.settings.ports ≡ a.settings.ports
  pub links : map link_of b.ports ≡ map link_of a.ports

pub ties_same : (a : Component) → KeepsTies a a
ties_same a = record { number = refl; settings = refl; links = refl }

pub ties_changed : (a b : Component) → IsChange a b → KeepsTies a b
ties_changed a b C = record { number = ap (λ h. h.generation) C.handle; settings = C.ports; links = C.links }

-- and its file
abbrev pub KeepsSeat : Component → Component → Type 0
KeepsSeat a b = KeepsTies a b × (b.file ≡ a.file)

pub seat_same : (a : Component) → KeepsSeat a a
seat_same a = (ties_same a, refl)

module _ (R : Component → Component → Type 0) where
  -- each component of the second world is so related to that of the first
  pub record Each (w v : World) : Type 0 where
    pub many : length v.components ≡ length w.components
    pub each : (i : ℕ) (b : Component) → slice_get v.components i ≡ Some b → (a : Component) × (slice_get w.components i ≡ Some a) × R a b

  module _ (same : (a : Component) → R a a) where
    pub each_same : (w v : World) → v.components ≡ w.components → Each w v
    each_same w v e = record { many = ap length e; each = λ i b f. (b, ap (λ (cs : List Component). slice_get cs i) (sym e) ∙ f, same b) }

    -- one component in place of another
    pub each_set : (w v : World) (i : ℕ) (a b : Component) → slice_get w.components i ≡ Some a → v.components ≡ set w.components i b → R a b → Each w v
    each_set w v i a b e s K = record {
      many = ap length s ∙ length-set w.components i b;
      each = λ j y f. elim (at_set_over w.components i j b y (ap (λ (cs : List Component). slice_get cs j) (sym s) ∙ f)) [
        | inl h ↦ (a, ap (slice_get w.components) h.0 ∙ e, subst (R a) (sym h.1) K)
        | inr h ↦ (y, h.1, same y)
      ];
    }

  pub each_then : ((a b c : Component) → R a b → R b c → R a c) → (w u v : World) → Each w u → Each u v → Each w v
  each_then more w u v A B = record {
    many = B.many ∙ A.many;
    each = λ i c e.
        let b = B.each i c e in
        let a = A.each i b.0 b.1 in
        (a.0, a.1, more a.0 b.0 c a.2 b.2);
  }

pub each_by : (R Q : Component → Component → Type 0) → ((a b : Component) → R a b → Q a b) → (w v : World) → Each R w v → Each Q w v
each_by R Q h w v K = record { many = K.many; each = λ i b e. let a = K.each i b e in (a.0, a.1, h a.0 b a.2) }

pub files_kept : (w v : World) → Each KeepsSeat w v → KeepsFiles w v
files_kept w v K = record { many = K.many; each = λ i b e. let a = K.each i b e in (a.0, a.1, a.2.1) }

-- ---- the joints

state_there : (k : ℕ) (ps qs : List PortState) (s : PortState) → map link_of qs ≡ map link_of ps → slice_get ps k ≡ Some s → (t : PortState) × (slice_get qs k ≡ Some t) × (t.link ≡ s.link)
state_there k ps qs s e f = from_mapped link_of qs k s.link (ap (λ (ls : List (Option Link)). slice_get ls k) e ∙ (mapped_at link_of ps k ∙ ap (option_map link_of) f))

end_kept : (end : Bool → ℕ → PortKey) (side : Bool) (l : ℕ) (a b : Component) → KeepsTies a b → HasTunnelEnd end side l a → HasTunnelEnd end side l b
end_kept end side l a b K H =
    let J = H.joint in
    let t = state_there (end side l).port a.ports b.ports J.state K.links J.there in
    record {
      joint = record {
        setting = J.setting;
        set = ap (λ ss. slice_get ss (end side l).port) K.settings ∙ J.set;
        direction = J.direction;
        state = t.0;
        there = t.1;
        link = J.link;
        joined = t.2 ∙ J.joined;
        peer = J.peer;
      };
      supplier = H.supplier;
    }

pub links_kept : (end : Bool → ℕ → PortKey) (links : ℕ) (w v : World) → HasLinks end links w → Each KeepsTies w v → HasLinks end links v
links_kept end links w v L K = record {
  numbered = λ i b e. let a = K.each i b e in (a.2).number ∙ L.numbered i a.0 a.1;
  inside = λ side l b. subst (λ (n : ℕ). (end side l).component < n) (sym K.many) (L.inside side l b);
  joined = λ side l b below e. let a = K.each (end side l).component b e in end_kept end side l a.0 b a.2 (L.joined side l a.0 below a.1);
  ends = λ i port b s e f.
      let a = K.each i b e in
      let t = state_there port b.ports (a.0).ports s (sym (a.2).links) f in
      L.ends i port a.0 t.0 a.1 t.1;
}

pub linked_kept : (end : Bool → ℕ → PortKey) (links : ℕ) (w v : World) → IsLinked end links w → Each KeepsSeat w v → Sound v → All (λ (a : Component). a.work ≡ None) v.components → All (λ (a : Component). a.client_out ≡ false) v.components → IsLinked end links v
linked_kept end links w v L K S W C = record { sound = S; has = links_kept end links w v L.has (each_by KeepsSeat KeepsTies (λ a b h. h.0) w v K); works = W; clients = C }

-- ---- what is known of a header

module _ (end : Bool → ℕ → PortKey) (links : ℕ) (w : World) (L : IsLinked end links w) where
  pub work_none : (i : ℕ) (a : Component) → slice_get w.components i ≡ Some a → a.work ≡ None
  work_none i a e = at_place (λ (b : Component). b.work ≡ None) w.components i a L.works e

  pub client_in : (i : ℕ) (a : Component) → slice_get w.components i ≡ Some a → a.client_out ≡ false
  client_in i a e = at_place (λ (b : Component). b.client_out ≡ false) w.components i a L.clients e

  -- a port that is there is an end of a link, and joined to the other one
  record IsEnd (p : Port) : Type 0 where
    some : IsSomeEnd end 0 links p.key
    link : Link
    joined : p.state.link ≡ Some link
    peer : IsSomeEnd end 0 links link.peer

  end_of_port : (key : PortKey) (p : Port) → port_at key w.components ≡ Some p → IsEnd p
  end_of_port key p e =
      let H = has_port key w.components p e in
      let a = H.component in
      let P = port_parts a key.port p H.port in
      let n : number_of a ≡ H.place = L.has.numbered H.place a H.there in
      let E = L.has.ends H.place key.port a p.state H.there P.state in
      let is : end E.side E.number ≡ p.key = E.is ∙ ((λ i. record { component = sym n i; port = key.port }) ∙ sym P.key) in
      let place : (end E.side E.number).component ≡ H.place = ap (λ (k : PortKey). k.component) E.is in
      let port : (end E.side E.number).port ≡ key.port = ap (λ (k : PortKey). k.port) E.is in
      let J = (L.has.joined E.side E.number a E.below (ap (slice_get w.components) place ∙ H.there)).joint in
      let same : Some J.state ≡ Some p.state = sym J.there ∙ (ap (slice_get a.ports) port ∙ P.state) in
      let state : J.state ≡ p.state = cc in
      record {
        some = record { side = E.side; number = E.number; later = E.later; below = E.below; is = is };
        link = J.link;
        joined = ap (λ (s : PortState). s.link) (sym state) ∙ J.joined;
        peer = record { side = not E.side; number = E.number; later = E.later; below = E.below; is = sym J.peer };
      }

  -- the component of an end has its port
  pub port_of_end : (side : Bool) (l : ℕ) → l < links → (a : Component) → slice_get w.components (end side l).component ≡ Some a
      → (T : HasTunnelEnd end side l a) × (port_of a (end side l).port ≡ Some (record { key = end side l; setting = T.joint.setting; state = T.joint.state }))
  port_of_end side l b a e =
      let T = L.has.joined side l a b e in
      let n : number_of a ≡ (end side l).component = L.has.numbered (end side l).component a e in (
        T,
        subst (λ (k : ℕ). port_of a (end side l).port ≡ Some (record { key = record { component = k; port = (end side l).port }; setting = T.joint.setting; state = T.joint.state })) n
            (port_there a (end side l).port T.joint.setting T.joint.state T.joint.set T.joint.there),
      )

  peer_there : (key : PortKey) → IsSomeEnd end 0 links key → (p : Port) × (port_at key w.components ≡ Some p)
  peer_there key E =
      let c = get_there w.components (end E.side E.number).component (L.has.inside E.side E.number E.below) in
      let q = port_of_end E.side E.number E.below c.0 c.1 in
      let n : number_of c.0 ≡ (end E.side E.number).component = L.has.numbered (end E.side E.number).component c.0 c.1 in (
        record { key = end E.side E.number; setting = (q.0).joint.setting; state = (q.0).joint.state },
        ap (λ (k : PortKey). port_at k w.components) (sym E.is) ∙ (port_at_is w.numbered (end E.side E.number).component (end E.side E.number) w.components c.0 (parts_of w L.sound).rising c.1 n ∙ q.1),
      )

  -- a header is in a list of the end of a link
  pub record IsAtEnd (s : HeaderState) : Type 0 where
    pub key : PortKey
    pub owner : s.owner ≡ owners.Port key
    pub queue : s.queue ≢ Out
    pub end_is : IsSomeEnd end 0 links key

  made_for : (o : Option PortKey) (p : Port) → IsEnd p → IsMadeFor o p → (peer : PortKey) × (o ≡ Some peer) × IsSomeEnd end 0 links peer
  made_for None p E M = let z : None ≡ Some E.link = sym M ∙ E.joined in absurd cc
  made_for (Some peer) p E M =
      let k = there_is p.state.link (λ (y : Link). y.peer ≡ peer) M.1 in
      let s : Some k.0 ≡ Some E.link = sym k.1 ∙ E.joined in
      let is : k.0 ≡ E.link = cc in
      (peer, refl, subst (IsSomeEnd end 0 links) (ap (λ (y : Link). y.peer) (sym is) ∙ k.2) E.peer)

  -- the number of a port's component is that of one that is there, whose work is out
  no_work : (n number : ℕ) (r : HeaderRecord) (key : PortKey) (p : Port) → find_header n w.headers ≡ Some r → port_at key w.components ≡ Some p → key.component ≡ number → r.state.owner ≡ owners.Work number → ⊥
  no_work n number r key p f e same owner =
      let H = has_port key w.components p e in
      let a = H.component in
      let is : number_of a ≡ number = H.number ∙ same in
      let claimed : times n (work_numbers a.work) ≡ weight (holds_at ((seen w.headers).header n) (is_in_work_of (number_of a))) = ((parts_of w L.sound).works).claimed H.place a H.there n in
      let none : times n (work_numbers a.work) ≡ 0 = ap (λ (o : Option Work). times n (work_numbers o)) (work_none H.place a H.there) in
      let one : weight (holds_at ((seen w.headers).header n) (is_in_work_of (number_of a))) ≡ 1 = rw (f, is, owner) (ap weight (eq-eqb number number refl)) in
      absurd (omega (arith, claimed, none, one))

  pub at_end : (n : ℕ) (r : HeaderRecord) → find_header n w.headers ≡ Some r → IsAtEnd r.state
  at_end n r f =
      let I = (parts_of w L.sound).tied.placed n r f in
      let p = there_is (port_at r.state.port w.components) (IsMadeFor r.state.peer) I.port in
      let E = end_of_port r.state.port p.0 p.1 in
      let M = made_for r.state.peer p.0 E p.2 in
      let key : (p.0).key ≡ r.state.port = (parts_of w L.sound).tied.keyed r.state.port p.0 p.1 in
      by_owner r.state.owner refl I.owner p.0 p.1 (subst (IsSomeEnd end 0 links) key E.some) M
    where
      by_owner : (o : Owner) → r.state.owner ≡ o → IsOwnedSo r.state o → (p : Port) → port_at r.state.port w.components ≡ Some p → IsSomeEnd end 0 links r.state.port → (peer : PortKey) × (r.state.peer ≡ Some peer) × IsSomeEnd end 0 links peer → IsAtEnd r.state
      by_owner owners.Client e O p at here M = let z : None ≡ Some M.0 = sym O.1 ∙ M.1 in absurd cc
      by_owner (owners.Notice c) e O p at here M = let z : None ≡ Some M.0 = sym O.1 ∙ M.1 in absurd cc
      by_owner (owners.Work c) e O p at here M = absurd (working c e O.1 p at M)
        where
          working : (c : ℕ) → r.state.owner ≡ owners.Work c → is_for_component c r.state ≡ true → (p : Port) → port_at r.state.port w.components ≡ Some p → (peer : PortKey) × (r.state.peer ≡ Some peer) × IsSomeEnd end 0 links peer → ⊥
          working c e t p at M = elim (or_cases (nat_eq r.state.port.component c) (is_key_of c r.state.peer) t) [
            | inl h ↦ no_work n c r r.state.port p f at (eqb-true _ _ h) e
            | inr h ↦
                let q = peer_there M.0 M.2 in
                let k : nat_eq (M.0).component c ≡ true = rw M.1 at h in
                no_work n c r M.0 q.0 f q.1 (eqb-true _ _ k) e
          ]
      by_owner (owners.Port key) e O p at here M = record {
        key = key;
        owner = e;
        queue = O.1;
        end_is = elim (for_which key r.state O.0) [
          | inl h ↦ subst (IsSomeEnd end 0 links) h here
          | inr h ↦ let s : Some M.0 ≡ Some key = sym M.1 ∙ h in let is : M.0 ≡ key = cc in subst (IsSomeEnd end 0 links) is M.2
        ];
      }
