-- One component in place of another of the same handle, with the same settings and links of ports and the same headers in its notes.
use Rattle.std.proofs.Common.{◌≡◌, inl, inr, ℕ, true, zero, suc, ◌+◌, List, [], ◌∷◌, map, set, slice_get, Some, refl, sym, ◌∙◌, ap, arith}
use Rattle.std.proofs.lemmas.Bool.{cases_eq}
use Rattle.il_machine.specs.declared.port.PortSetting.{PortSetting}
use Rattle.il_machine.specs.declared.port.PortState.{PortState}
use Rattle.il_machine.specs.World.{Component, HeaderRecord, Work, World, number_of, ports_from, port_of, with_component}
use Rattle.il_machine.specs.Headers.{seen}
use Rattle.il_machine.specs.Look.{look}
use Rattle.il_machine.specs.Units.{free_units}
use Rattle.il_machine.specs.Census.{note_numbers}
use Rattle.il_machine.specs.Sound.{Sound, IsSound, AreNoted, AreRising, may_work, port_at}
use Rattle.machine_laws.specs.Changes.{link_of, IsChange}
use Rattle.machine_laws.proofs.Every.{at_set}
use Rattle.machine_laws.proofs.Lookups.{rising_set, port_at_is, port_at_set, port_at_set_else}
use Rattle.machine_laws.proofs.Ties.{Tied}
use Rattle.machine_laws.proofs.PortChanges.{AreKept, tied_kept, kept_itself}
use Rattle.machine_laws.proofs.Works.{IsLawfulWork, works_set, lawful_as}
use Rattle.machine_laws.proofs.Units.{Resources, IsAside, IsFair, fair_aside, resources_of, resources_set}
use Rattle.machine_laws.proofs.Parts.{Parts, ports_in_list, parts_of, sound_from}

pub change_none : (c : Component) → IsChange c c
change_none c = record { handle = refl; ports = refl; links = refl; notes = refl }

pub change_twice : (c d e : Component) → IsChange c d → IsChange d e → IsChange c e
change_twice c d e C D = record { handle = D.handle ∙ C.handle; ports = D.ports ∙ C.ports; links = D.links ∙ C.links; notes = D.notes ∙ C.notes }

-- ---- the ports

kept_from : (hs : List HeaderRecord) (number index k : ℕ) (ss : List PortSetting) (ps qs : List PortState) → map link_of qs ≡ map link_of ps
    → AreKept hs (slice_get (ports_from number index ss ps) k) (slice_get (ports_from number index ss qs) k)
kept_from hs number index k [] ps qs e = tt
kept_from hs number index k (s ∷ ss) [] [] e = tt
kept_from hs number index k (s ∷ ss) [] (q ∷ qs) e = absurd cc
kept_from hs number index k (s ∷ ss) (p ∷ ps) [] e = absurd cc
kept_from hs number index zero (s ∷ ss) (p ∷ ps) (q ∷ qs) e = record { key = refl; link = cc; definition = inl refl }
kept_from hs number index (suc k) (s ∷ ss) (p ∷ ps) (q ∷ qs) e = let r : map link_of qs ≡ map link_of ps = cc in kept_from hs number (index + 1) k ss ps qs r

pub kept_by_change : (hs : List HeaderRecord) (c d : Component) → IsChange c d → (k : ℕ) → AreKept hs (port_of c k) (port_of d k)
kept_by_change hs c d C k = let n : number_of d ≡ number_of c = ap (λ h. h.generation) C.handle in rw (n, C.ports) (kept_from hs (number_of c) 0 k c.settings.ports c.ports d.ports C.links)

-- ---- the world

pub tied_set : (next i : ℕ) (cs : List Component) (hs : List HeaderRecord) (c d : Component) → AreRising 0 cs next → slice_get cs i ≡ Some c → number_of d ≡ number_of c
    → ((k : ℕ) → AreKept hs (port_of c k) (port_of d k)) → Tied (ports_in_list cs) hs → Tied (ports_in_list (set cs i d)) hs
tied_set next i cs hs c d R e n K T = tied_kept (ports_in_list cs) (ports_in_list (set cs i d)) hs T (λ key. elim (cases_eq (number_of c) key.component) [
  | inl a ↦ rw (port_at_is next i key cs c R e a, port_at_set next key i cs c d R e n a) (K key.port)
  | inr a ↦ rw (port_at_set_else key i cs c d e n a) (kept_itself hs (port_at key cs))
])

pub each_set : (P : Component → Type 0) (i : ℕ) (cs : List Component) (d : Component) → ((j : ℕ) (x : Component) → slice_get cs j ≡ Some x → P x) → P d
    → (j : ℕ) (x : Component) → slice_get (set cs i d) j ≡ Some x → P x
each_set P i cs d h p j x e = elim (at_set cs i j d x e) [ inl s ↦ rw s.1 p | inr s ↦ h j x s.1 ]

pub same_notes : (hs : List HeaderRecord) (c d : Component) → number_of d ≡ number_of c → note_numbers d.notes ≡ note_numbers c.notes → AreNoted (seen hs) c → AreNoted (seen hs) d
same_notes hs c d n e A = λ number. rw (e, n) (A number)

pub lawful_set : (spare waits after i : ℕ) (cs : List Component) (c d : Component) → slice_get cs i ≡ Some c → IsFair spare waits after c d
    → ((j : ℕ) (x : Component) (work : Work) → slice_get cs j ≡ Some x → x.work ≡ Some work → IsLawfulWork x work)
    → (j : ℕ) (x : Component) (work : Work) → slice_get (set cs i d) j ≡ Some x → x.work ≡ Some work → IsLawfulWork x work
lawful_set spare waits after i cs c d t F L j x work e f = elim (at_set cs i j d x e) [
  | inl s ↦
      let q : c.work ≡ Some work = sym (F.keeps).work ∙ (ap (λ (y : Component). y.work) (sym s.1) ∙ f) in
      rw s.1 (lawful_as c d work F.keeps (F.stays work q) (L i c work t q))
  | inr s ↦ L j x work s.1 f
]

pub parts_changed : (spare waits after numbered made i : ℕ) (cs : List Component) (hs : List HeaderRecord) (c d : Component) → Parts cs hs numbered made → slice_get cs i ≡ Some c → IsChange c d → IsSound d → IsFair spare waits after c d
    → Parts (set cs i d) hs numbered made
parts_changed spare waits after numbered made i cs hs c d P e C S F =
    let n : number_of d ≡ number_of c = ap (λ h. h.generation) C.handle in
    record {
      rising = rising_set 0 numbered i cs c d P.rising e n;
      components = each_set IsSound i cs d P.components S;
      tied = tied_set numbered i cs hs c d P.rising e n (kept_by_change hs c d C) P.tied;
      noted = each_set (AreNoted (seen hs)) i cs d P.noted (same_notes hs c d n C.notes (P.noted i c e));
      works = works_set i cs hs c d e n (F.keeps).work P.works;
      lawful = lawful_set spare waits after i cs c d e F P.lawful;
      once = P.once;
      below = P.below;
    }

-- a work of a component of a sound world is out in a state in which it may be
pub out_there : (w : World) (i : ℕ) (c : Component) → Sound w → slice_get w.components i ≡ Some c → (work : Work) → c.work ≡ Some work → may_work c ≡ true
out_there w i c S t work e = ((parts_of w S).lawful i c work t e).state

-- a change of a component of a sound world that is aside of its state and units
pub aside_there : (w : World) (i : ℕ) (c d : Component) → Sound w → slice_get w.components i ≡ Some c → IsAside c d → IsFair 0 w.waits w.waits c d
aside_there w i c d S t A = fair_aside w.waits c d A ((resources_of w S).each i c t) (out_there w i c S t)

-- the resources of a sound world after the change
pub resources_changed : (w : World) (i : ℕ) (c d : Component) → Sound w → slice_get w.components i ≡ Some c → number_of d ≡ number_of c → IsFair 0 w.waits w.waits c d → Resources (set w.components i d) w.streams w.waits w.units
resources_changed w i c d S t n F = resources_set 0 w.waits w.waits w.units i w.components w.streams c d (omega arith) t n (omega (arith, S.enough)) F (resources_of w S)

pub sound_component : (w : World) (i : ℕ) (c d : Component) → Sound w → slice_get w.components i ≡ Some c → IsChange c d → IsSound d → IsFair 0 w.waits w.waits c d → Sound (with_component i d w)
sound_component w i c d S e C I F =
    sound_from (with_component i d w) (parts_changed 0 w.waits w.waits w.numbered w.made i w.components w.headers c d (parts_of w S) e C I F)
    (resources_changed w i c d S e (ap (λ h. h.generation) C.handle) F)

-- the units that nobody holds are spare
pub sound_taking_units : (w : World) (i : ℕ) (c d : Component) → Sound w → slice_get w.components i ≡ Some c → IsChange c d → IsSound d → IsFair (free_units (look w)) w.waits w.waits c d → Sound (with_component i d w)
sound_taking_units w i c d S e C I F =
    sound_from (with_component i d w) (parts_changed (free_units (look w)) w.waits w.waits w.numbered w.made i w.components w.headers c d (parts_of w S) e C I F)
    (resources_set (free_units (look w)) w.waits w.waits w.units i w.components w.streams c d (omega arith) e (ap (λ h. h.generation) C.handle) (omega (arith, S.enough)) F (resources_of w S))
