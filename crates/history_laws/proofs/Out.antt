-- Works that are out stay so, with their parts' terms and streams, as one component after another changes.
use Rattle.std.proofs.Common.{◌≡◌, ◌≢◌, inl, inr, ℕ, zero, suc, true, false, not, List, [], ◌∷◌, ◌++◌, map, set, remove, find, filter, slice_get, if◌then◌else◌, Option, Some, None, is_some, refl, sym, ◌∙◌, ap, subst, eqb-true, ne_eqb, arith, All}
use Rattle.std.proofs.lemmas.Bool.{cases_eq}
use Rattle.il_machine.specs.declared.port.PortState.{PortState}
use Rattle.il_machine.specs.Settings.{formats_of}
use Rattle.il_machine.specs.World.{Component, Stream, World, number_of, stream_of, is_stream_of, fresh_stream}
use Rattle.il_machine.specs.Sound.{AreRising}
use Rattle.machine_laws.proofs.Finding.{either}
use Rattle.machine_laws.proofs.Every.{at_place, from_places, at_set, set_there, set_else}
use Rattle.machine_laws.proofs.Lookups.{rising_set}
use Rattle.history_laws.specs.Works.{AreKnown}
use Rattle.history_laws.proofs.Named.{named, named_number, named_set, named_push, named_removed, named_there, none_above}

-- ---- a component with its work out

pub record IsStillOut (c d : Component) : Type 0 where
  pub work : d.work ≡ c.work
  pub kind : d.settings.kind ≡ c.settings.kind
  pub file : d.file ≡ c.file
  pub failed : d.part.failed ≡ c.part.failed
  pub known : AreKnown c → (formats_of d.settings.ports ≡ formats_of c.settings.ports) × AreKnown d

pub still_itself : (c : Component) → IsStillOut c c
still_itself c = record { work = refl; kind = refl; file = refl; failed = refl; known = λ K. (refl, K) }

pub still_on : (c d e : Component) → IsStillOut c d → IsStillOut d e → IsStillOut c e
still_on c d e A B = record {
  work = B.work ∙ A.work;
  kind = B.kind ∙ A.kind;
  file = B.file ∙ A.file;
  failed = B.failed ∙ A.failed;
  known = λ K. let a = A.known K in let b = B.known a.1 in (b.0 ∙ a.0, b.1);
}

-- nothing that its part is set by changes, and each port is held no more than before
pub record IsNotHeld (ps qs : List PortState) : Type 0 where
  pub stay : All (λ p. p.held ≡ false) ps → All (λ p. p.held ≡ false) qs

pub still_as : (c d : Component) → d.work ≡ c.work → d.settings.kind ≡ c.settings.kind → d.file ≡ c.file → d.part.failed ≡ c.part.failed → formats_of d.settings.ports ≡ formats_of c.settings.ports → IsNotHeld c.ports d.ports → IsStillOut c d
still_as c d w k f q s H = record { work = w; kind = k; file = f; failed = q; known = λ K. (s, record { held = H.stay K.held; formats = rw s K.formats }) }

pub held_set : (ps : List PortState) (k : ℕ) (new : PortState) → new.held ≡ false → IsNotHeld ps (set ps k new)
held_set ps k new e = record {
  stay = λ A. from_places (λ p. p.held ≡ false) (set ps k new) (λ j p f. elim (at_set ps k j new p f) [
    | inl s ↦ ap (λ (x : PortState). x.held) s.1 ∙ e
    | inr s ↦ at_place (λ x. x.held ≡ false) ps j p A s.1
  ]);
}

-- the port that is put in place of another is held as that was
pub held_in_place : (ps : List PortState) (k : ℕ) (new old : PortState) → slice_get ps k ≡ Some old → new.held ≡ old.held → IsNotHeld ps (set ps k new)
held_in_place ps k new old t e = record { stay = λ A. (held_set ps k new (e ∙ at_place (λ x. x.held ≡ false) ps k old A t)).stay A }

pub held_map : (f : PortState → PortState) → ((p : PortState) → p.held ≡ false → (f p).held ≡ false) → (ps : List PortState) → IsNotHeld ps (map f ps)
held_map f h ps = record { stay = λ A. from_places (λ p. p.held ≡ false) (map f ps) (λ j p e. let x = mapped j ps p e in ap (λ (y : PortState). y.held) (sym x.2) ∙ h x.0 (at_place (λ y. y.held ≡ false) ps j x.0 A x.1)) }
  where
    mapped : (j : ℕ) (ps : List PortState) (p : PortState) → slice_get (map f ps) j ≡ Some p → (x : PortState) × (slice_get ps j ≡ Some x) × (f x ≡ p)
    mapped j [] p e = absurd cc
    mapped zero (x ∷ ps) p e = (x, refl, cc)
    mapped (suc j) (x ∷ ps) p e = mapped j ps p e

-- ---- the world

pub record IsKeptOut (k : ℕ) (c : Component) (w v : World) : Type 0 where
  pub component : Component
  pub there : named k v.components ≡ Some component
  pub still : IsStillOut c component
  pub stream : stream_of k v ≡ stream_of k w

-- each work that is out stays so, but the one that comes back
abbrev pub WorksStay : Option ℕ → World → World → Type 0
WorksStay back w v = (k : ℕ) (c : Component) → named k w.components ≡ Some c → is_some c.work ≡ true → back ≢ Some k → IsKeptOut k c w v

pub works_same : (back : Option ℕ) (w v : World) → v.components ≡ w.components → v.streams ≡ w.streams → WorksStay back w v
works_same back w v cs ss k c n o b = record { component = c; there = ap (named k) cs ∙ n; still = still_itself c; stream = ap (find (is_stream_of k)) ss }

pub works_on : (back : Option ℕ) (w m v : World) → WorksStay back w m → WorksStay back m v → WorksStay back w v
works_on back w m v A B k c n o b =
    let x = A k c n o b in
    let q : is_some (x.component).work ≡ true = ap (λ y. is_some y) (x.still).work ∙ o in
    let y = B k x.component x.there q b in
    record { component = y.component; there = y.there; still = still_on c x.component y.component x.still y.still; stream = y.stream ∙ x.stream }

pub works_set : (back : Option ℕ) (i : ℕ) (w v : World) (c d : Component) → slice_get w.components i ≡ Some c → v.components ≡ set w.components i d → v.streams ≡ w.streams → number_of d ≡ number_of c
    → (is_some c.work ≡ true → IsStillOut c d) → WorksStay back w v
works_set back i w v c d at cs ss n h k e t o b = elim (named_set k i w.components c d e at n t) [
  | inl s ↦ record {
    component = d;
    there = ap (named k) cs ∙ s.1;
    still = subst (λ (x : Component). IsStillOut x d) (sym s.0) (h (ap (λ (x : Component). is_some x.work) (sym s.0) ∙ o));
    stream = ap (find (is_stream_of k)) ss;
  }
  | inr s ↦ record { component = e; there = ap (named k) cs ∙ s; still = still_itself e; stream = ap (find (is_stream_of k)) ss }
]

named_else : (k i : ℕ) (cs : List Component) (c d e : Component) → slice_get cs i ≡ Some c → number_of d ≡ number_of c → number_of c ≢ k → named k cs ≡ Some e → named k (set cs i d) ≡ Some e
named_else k i cs c d e at n a t = elim (named_set k i cs c d e at n t) [ inl s ↦ absurd (a (ap number_of (sym s.0) ∙ named_number k cs e t)) | inr s ↦ s ]

-- two components give way to others
pub works_twice : (i j : ℕ) (w v : World) (c c' d d' : Component) → AreRising 0 w.components w.numbered → slice_get w.components i ≡ Some c → slice_get w.components j ≡ Some d → number_of c' ≡ number_of c → number_of d' ≡ number_of d
    → v.components ≡ set (set w.components i c') j d' → v.streams ≡ w.streams → IsStillOut c c' → IsStillOut d d' → WorksStay None w v
works_twice i j w v c c' d d' R at bt m n cs ss A B k e t o b =
    let hs : List Component = set w.components i c' in
    let S = rising_set 0 w.numbered i w.components c c' R at m in
    let ss' : stream_of k v ≡ stream_of k w = ap (find (is_stream_of k)) ss in
    elim (cases_eq i j) [
      | inl same ↦
          let z : Some c ≡ Some d = sym at ∙ (ap (slice_get w.components) same ∙ bt) in
          let q : c ≡ d = cc in
          let there : slice_get hs j ≡ Some c' = subst (λ (y : ℕ). slice_get hs y ≡ Some c') same (set_there w.components i c c' at) in
          let nn : number_of d' ≡ number_of c' = n ∙ (ap number_of (sym q) ∙ sym m) in
          elim (cases_eq (number_of c) k) [
            | inl x ↦
                let own : named k w.components ≡ Some c = subst (λ (y : ℕ). named y w.components ≡ Some c) x (named_there 0 w.numbered i w.components c R at) in
                let u : Some e ≡ Some c = sym t ∙ own in
                let is : e ≡ c = cc in
                let R' = rising_set 0 w.numbered j hs c' d' S there nn in
                let here : named (number_of d') (set hs j d') ≡ Some d' = named_there 0 w.numbered j (set hs j d') d' R' (set_there hs j c' d' there) in
                let kk : number_of d' ≡ k = n ∙ (ap number_of (sym q) ∙ x) in
                record {
                  component = d';
                  there = ap (named k) cs ∙ subst (λ (y : ℕ). named y (set hs j d') ≡ Some d') kk here;
                  still = subst (λ (y : Component). IsStillOut y d') (sym q ∙ sym is) B;
                  stream = ss';
                }
            | inr x ↦ record {
              component = e;
              there = ap (named k) cs ∙ named_else k j hs c' d' e there nn (λ y. x (sym m ∙ y)) (named_else k i w.components c c' e at m x t);
              still = still_itself e;
              stream = ss';
            }
          ]
      | inr apart ↦
          let there : slice_get hs j ≡ Some d = set_else w.components i j c' (λ y. apart (sym y)) ∙ bt in
          let R' = rising_set 0 w.numbered j hs d d' S there n in
          elim (cases_eq (number_of d) k) [
            | inl x ↦
                let own : named k w.components ≡ Some d = subst (λ (y : ℕ). named y w.components ≡ Some d) x (named_there 0 w.numbered j w.components d R bt) in
                let u : Some e ≡ Some d = sym t ∙ own in
                let is : e ≡ d = cc in
                let here : named (number_of d') (set hs j d') ≡ Some d' = named_there 0 w.numbered j (set hs j d') d' R' (set_there hs j d d' there) in
                record {
                  component = d';
                  there = ap (named k) cs ∙ subst (λ (y : ℕ). named y (set hs j d') ≡ Some d') (n ∙ x) here;
                  still = subst (λ (y : Component). IsStillOut y d') (sym is) B;
                  stream = ss';
                }
            | inr x ↦ elim (named_set k i w.components c c' e at m t) [
              | inl s ↦ record {
                component = c';
                there = ap (named k) cs ∙ named_else k j hs d d' c' there n x s.1;
                still = subst (λ (y : Component). IsStillOut y c') (sym s.0) A;
                stream = ss';
              }
              | inr s ↦ record { component = e; there = ap (named k) cs ∙ named_else k j hs d d' e there n x s; still = still_itself e; stream = ss' }
            ]
          ]
    ]

-- a component comes
find_pushed : (k m : ℕ) (ss : List Stream) → k ≢ m → find (is_stream_of k) (ss ++ fresh_stream m ∷ []) ≡ find (is_stream_of k) ss
find_pushed k m [] a = rw (ne_eqb m k (λ e. a (sym e))) refl
find_pushed k m (s ∷ ss) a = either (is_stream_of k s) (λ t. rw t refl) (λ f. rw f (find_pushed k m ss a))

pub works_pushed : (w v : World) (d : Component) → AreRising 0 w.components w.numbered → v.components ≡ w.components ++ d ∷ [] → v.streams ≡ w.streams ++ fresh_stream w.numbered ∷ [] → WorksStay None w v
works_pushed w v d R cs ss k c n o b =
    let apart : k ≢ w.numbered = λ e. let z : named k w.components ≡ None = none_above k 0 w.numbered w.components R (omega (arith, e)) in absurd cc in
    record { component = c; there = ap (named k) cs ∙ named_push k w.components d c n; still = still_itself c; stream = ap (find (is_stream_of k)) ss ∙ find_pushed k w.numbered w.streams apart }

-- a component without a work leaves
find_filtered : (k m : ℕ) (ss : List Stream) → m ≢ k → find (is_stream_of k) (filter (λ s. not (is_stream_of m s)) ss) ≡ find (is_stream_of k) ss
find_filtered k m [] a = refl
find_filtered k m (s ∷ ss) a =
    let i = find_filtered k m ss a in
    either (is_stream_of m s)
    (λ t.
    let f : is_stream_of k s ≡ false = ne_eqb s.component k (λ e. a (sym (eqb-true _ _ t) ∙ e)) in
    rw (t, f) i)
    (λ f. rw f (either (is_stream_of k s) (λ t. rw t refl) (λ g. rw g i)))

pub works_removed : (i : ℕ) (w v : World) (c : Component) → AreRising 0 w.components w.numbered → slice_get w.components i ≡ Some c → is_some c.work ≡ false → v.components ≡ remove w.components i
    → v.streams ≡ filter (λ s. not (is_stream_of (number_of c) s)) w.streams → WorksStay None w v
works_removed i w v c R at z cs ss k e t o b =
    let apart : number_of c ≢ k = λ x.
    let own : named k w.components ≡ Some c = subst (λ (y : ℕ). named y w.components ≡ Some c) x (named_there 0 w.numbered i w.components c R at) in
    let u : Some e ≡ Some c = sym t ∙ own in
    let is : e ≡ c = cc in
    let f : true ≡ false = sym o ∙ (ap (λ (y : Component). is_some y.work) is ∙ z) in
    absurd cc in
    record { component = e; there = ap (named k) cs ∙ (named_removed k i w.components c at apart ∙ t); still = still_itself e; stream = ap (find (is_stream_of k)) ss ∙ find_filtered k (number_of c) w.streams apart }

-- the work of one component comes back
find_changed : (k m : ℕ) (f : Stream → Stream) (ss : List Stream) → ((s : Stream) → (f s).component ≡ s.component) → m ≢ k → find (is_stream_of k) (map (λ s. if is_stream_of m s then f s else s) ss) ≡ find (is_stream_of k) ss
find_changed k m f [] h a = refl
find_changed k m f (s ∷ ss) h a =
    let i = find_changed k m f ss h a in
    either (is_stream_of m s)
    (λ t.
    let c : s.component ≡ m = eqb-true _ _ t in
    let x : is_stream_of k s ≡ false = ne_eqb s.component k (λ e. a (sym c ∙ e)) in
    let y : is_stream_of k (f s) ≡ false = ne_eqb (f s).component k (λ e. a (sym (h s ∙ c) ∙ e)) in
    rw (t, x, y) i)
    (λ g. rw g (either (is_stream_of k s) (λ t. rw t refl) (λ q. rw q i)))

-- one component changes with its stream, and no work that stays is its own
works_apart : (back : Option ℕ) (i : ℕ) (w v : World) (c d : Component) (f : Stream → Stream) → ((s : Stream) → (f s).component ≡ s.component) → slice_get w.components i ≡ Some c → v.components ≡ set w.components i d → number_of d ≡ number_of c
    → v.streams ≡ map (λ s. if is_stream_of (number_of c) s then f s else s) w.streams → ((k : ℕ) (e : Component) → named k w.components ≡ Some e → is_some e.work ≡ true → back ≢ Some k → number_of c ≢ k) → WorksStay back w v
works_apart back i w v c d f h at cs n ss a k e t o b =
    let apart = a k e t o b in
    record { component = e; there = ap (named k) cs ∙ named_else k i w.components c d e at n apart t; still = still_itself e; stream = ap (find (is_stream_of k)) ss ∙ find_changed k (number_of c) f w.streams h apart }

pub works_back : (i : ℕ) (w v : World) (c d : Component) (f : Stream → Stream) → ((s : Stream) → (f s).component ≡ s.component) → slice_get w.components i ≡ Some c → v.components ≡ set w.components i d → number_of d ≡ number_of c
    → v.streams ≡ map (λ s. if is_stream_of (number_of c) s then f s else s) w.streams → WorksStay (Some (number_of c)) w v
works_back i w v c d f h at cs n ss = works_apart (Some (number_of c)) i w v c d f h at cs n ss (λ k e t o b x. b (ap (λ (y : ℕ). Some y) x))

-- the component has no work out
pub works_without : (i : ℕ) (w v : World) (c d : Component) (f : Stream → Stream) → AreRising 0 w.components w.numbered → ((s : Stream) → (f s).component ≡ s.component) → slice_get w.components i ≡ Some c → v.components ≡ set w.components i d
    → number_of d ≡ number_of c → v.streams ≡ map (λ s. if is_stream_of (number_of c) s then f s else s) w.streams → is_some c.work ≡ false → WorksStay None w v
works_without i w v c d f R h at cs n ss z = works_apart None i w v c d f h at cs n ss (λ k e t o b x.
    let own : named k w.components ≡ Some c = subst (λ (y : ℕ). named y w.components ≡ Some c) x (named_there 0 w.numbered i w.components c R at) in
    let u : Some e ≡ Some c = sym t ∙ own in
    let is : e ≡ c = cc in
    let q : true ≡ false = sym o ∙ (ap (λ (y : Component). is_some y.work) is ∙ z) in
    absurd cc)

-- its stream stays, where nothing went through
pub works_told : (i : ℕ) (w v : World) (c d : Component) → slice_get w.components i ≡ Some c → v.components ≡ set w.components i d → number_of d ≡ number_of c → v.streams ≡ w.streams → WorksStay (Some (number_of c)) w v
works_told i w v c d at cs n ss k e t o b =
    let apart : number_of c ≢ k = λ x. b (ap (λ (y : ℕ). Some y) x) in
    record { component = e; there = ap (named k) cs ∙ named_else k i w.components c d e at n apart t; still = still_itself e; stream = ap (find (is_stream_of k)) ss }
