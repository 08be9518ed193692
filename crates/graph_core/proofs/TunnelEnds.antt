-- The two components that a tunnel joins or leaves, as the code reads them one after the other.
use Rattle.std.proofs.Common.{◌≡◌, ◌≢◌, ◌<◌, ℕ, None, Some, length, get_or, set, slice_get, IsSomeAnd, refl, sym, ◌∙◌, ap, subst, length-set}
use Rattle.omx_types.specs.declared.param.Supplier.{Supplier}
use Rattle.il_machine.specs.declared.answer.Progress.{Progress}
use Rattle.il_machine.specs.declared.port.Port.{Port}
use Rattle.il_machine.specs.declared.port.PortSetting.{PortSetting}
use Rattle.il_machine.specs.Look.{Look, look}
use Rattle.il_machine.specs.Sound.{Sound}
use Rattle.il_machine.specs.Tunnels.{agreed_of, both_joined, both_parted, drop_refusal, joined_to, parted, setup_refusal, widened}
use Rattle.il_machine.specs.World.{Component, World, port_of}
use Rattle.machine_laws.proofs.Tunnels.{sound_joined, sound_parted}
use Rattle.il_component.specs.Entries.{Entry, component_of, KeepsNotices}
use Rattle.il_component.specs.PortChanges.{linked, unlinked}
use Rattle.graph_core.specs.Entries.{Entries, component_at, kept, look_of}
use Rattle.graph_core.specs.Standing.{SoundWorld}
use Rattle.graph_core.proofs.Calming.{calm_joined, calm_parted}
use Rattle.graph_core.proofs.Cores.{Becomes, StaysAlike}
use Rattle.graph_core.proofs.Found.{both_have, first_found, looks_there, read_after, second_there, second_within}
use Rattle.graph_core.proofs.Joining.{AreEnds, join_ends, linked_is, part_ends, unlinked_is}

-- the entry is the giver's, and with the taker's it has the two ends
pub record Meet {C : Type 0} (g : Entries C) (i output j input : ℕ) (May : Component → Component → Type 0) (e : Entry C) : Type 0 where
  pub at : slice_get g.entries i ≡ Some e
  pub within : j < length g.entries
  pub first : Port
  pub out : port_of (component_of e) output ≡ Some first
  pub apart : i ≢ j
  pub may : (d : Entry C) → slice_get g.entries j ≡ Some d → May (component_of e) (component_of d)
  pub ends : (d : Entry C) → slice_get g.entries j ≡ Some d → AreEnds i output j input e d

module _ {C : Type 0} where
  abbrev pub MaySet : ℕ → ℕ → Entries C → Component → Component → Type 0
  MaySet output input g c d = setup_refusal (look_of g).headers c d (port_of c output) (port_of d input) ≡ None

  abbrev pub MayDrop : ℕ → ℕ → Entries C → Component → Component → Type 0
  MayDrop output input g c d = drop_refusal (look_of g).headers (port_of c output) (port_of d input) ≡ None

  -- the taker's entry, as it is read after the giver's changed
  pub taker_read : (g : Entries C) (i output j input : ℕ) (May : Component → Component → Type 0) (e e' d : Entry C) → Meet g i output j input May e → d ≡ get_or (set g.entries i e') j d → slice_get g.entries j ≡ Some d
  taker_read g i output j input May e e' d M is = read_after g.entries i j e' d M.apart M.within is

module _ {C : Type 0} (progress : C → Progress) (g v : Entries C) (sees : g ≡ v) (i output j input : ℕ) where
  meet : (P : Entries C → Component → Component → Type 0) (asked : IsSomeAnd (component_at i v) (λ c. IsSomeAnd (component_at j v) (P v c))) (e : Entry C) (is : e ≡ get_or g.entries i e)
      → (slice_get g.entries i ≡ Some e → (d : Entry C) → slice_get g.entries j ≡ Some d → P g (component_of e) (component_of d) → AreEnds i output j input e d) → Meet g i output j input (P g) e
  meet P asked e is ends =
      let at : slice_get g.entries i ≡ Some e = first_found progress g v sees i j P asked e is in
      let may : (d : Entry C) → slice_get g.entries j ≡ Some d → P g (component_of e) (component_of d) = both_have progress g v sees i j P asked e is in
      let both : (d : Entry C) → slice_get g.entries j ≡ Some d → AreEnds i output j input e d = λ d at'. ends at d at' (may d at') in
      let E = both _ (second_there progress g v sees i j P asked e is) in
      record { at = at; within = second_within progress g v sees i j P asked e is; first = E.first; out = E.out; apart = E.apart; may = may; ends = both }

  pub meet_set : IsSomeAnd (component_at i v) (λ c. IsSomeAnd (component_at j v) (MaySet output input v c)) → (e : Entry C) → e ≡ get_or g.entries i e → Meet g i output j input (MaySet output input g) e
  meet_set asked e is = meet (MaySet output input) asked e is (λ at d at' may. join_ends g.entries (look_of g).headers i output j input e d at at' may)

  pub meet_drop : SoundWorld (kept progress g) → IsSomeAnd (component_at i v) (λ c. IsSomeAnd (component_at j v) (MayDrop output input v c)) → (e : Entry C) → e ≡ get_or g.entries i e → Meet g i output j input (MayDrop output input g) e
  meet_drop W asked e is = meet (MayDrop output input) asked e is (λ at d at' may. part_ends progress g i output j input e d W at at' may)

-- ---- what stays of a component whose port is joined or parted

pub joined_alike : (c : Component) (index : ℕ) (p q : Port) (supplier : Supplier) → port_of c index ≡ Some p → StaysAlike c (joined_to q supplier p c)
joined_alike c index p q supplier here = record {
  handle = refl;
  ports = length-set c.ports p.key.port _;
  pending = refl;
  part = record { number = refl; kind = refl; file = refl; failed = refl; work = refl };
  row = refl;
  calm = calm_joined c index p q supplier here;
}

pub parted_alike : (c : Component) (index : ℕ) (p : Port) → port_of c index ≡ Some p → StaysAlike c (parted p c)
parted_alike c index p here = record {
  handle = refl;
  ports = length-set c.ports p.key.port _;
  pending = refl;
  part = record { number = refl; kind = refl; file = refl; failed = refl; work = refl };
  row = refl;
  calm = calm_parted c index p here;
}

module _ {C : Type 0} where
  pub joined_becomes : (e e' : Entry C) (index : ℕ) (p q : Port) (supplier : Supplier) (setting : PortSetting) → port_of (component_of e) index ≡ Some p → setting ≡ widened p q
      → component_of e' ≡ linked index setting (record { peer = q.key; supplier = supplier }) (component_of e) → KeepsNotices e e' → Becomes e e' (joined_to q supplier p (component_of e))
  joined_becomes e e' index p q supplier setting here wide is kept = record {
    is = is ∙ (ap (λ (s : PortSetting). linked index s (record { peer = q.key; supplier = supplier }) (component_of e)) wide ∙ linked_is (component_of e) index p q supplier here);
    kept = kept;
    alike = joined_alike (component_of e) index p q supplier here;
  }

  pub parted_becomes : (e e' : Entry C) (index : ℕ) (p : Port) → port_of (component_of e) index ≡ Some p → component_of e' ≡ unlinked index (component_of e) → KeepsNotices e e' → Becomes e e' (parted p (component_of e))
  parted_becomes e e' index p here is kept = record { is = is ∙ unlinked_is (component_of e) index p here; kept = kept; alike = parted_alike (component_of e) index p here }

-- ---- a sound world stays so

module _ {C : Type 0} (progress : C → Progress) (g : Entries C) (i output j input : ℕ) (e d : Entry C) (p q : Port) (out : port_of (component_of e) output ≡ Some p) (inp : port_of (component_of d) input ≡ Some q) (at : slice_get g.entries j ≡ Some d)
    (w : World) (l : look w ≡ look_of g) (S : Sound w) where
  pub joined_sound : (supplier : Supplier) → supplier ≡ agreed_of p q → Meet g i output j input (MaySet output input g) e → Sound (both_joined supplier i (component_of e) p j (component_of d) q w)
  joined_sound supplier agreed M =
      let may : MaySet output input g (component_of e) (component_of d) = M.may d at in
      subst (λ (s : Supplier). Sound (both_joined s i (component_of e) p j (component_of d) q w)) (sym agreed)
      (sound_joined w i (component_of e) output p j (component_of d) input q S (looks_there progress g w i e l M.at) out (looks_there progress g w j d l at) inp
      (subst (λ (v : Look). setup_refusal v.headers (component_of e) (component_of d) (port_of (component_of e) output) (port_of (component_of d) input) ≡ None) (sym l) may))

  pub parted_sound : Meet g i output j input (MayDrop output input g) e → Sound (both_parted i (component_of e) p j (component_of d) q w)
  parted_sound M =
      let may : MayDrop output input g (component_of e) (component_of d) = M.may d at in
      sound_parted w i (component_of e) output p j (component_of d) input q S (looks_there progress g w i e l M.at) out (looks_there progress g w j d l at) inp
      (subst (λ (v : Look). drop_refusal v.headers (port_of (component_of e) output) (port_of (component_of d) input) ≡ None) (sym l) may)
