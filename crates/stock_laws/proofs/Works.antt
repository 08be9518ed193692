-- The parts that are kept, as a file comes, and as a work goes out and comes back.
use Rattle.std.proofs.Common.{◌≡◌, ◌≢◌, inl, inr, ℕ, ◌+◌, Bool, true, false, List, [], ◌∷◌, ◌++◌, map, find, set, slice_get, Option, Some, None, is_some, option_map, refl, sym, ◌∙◌, ap, subst, append-nil, eqb-true, eq-eqb, ne_eqb, arith, if◌then◌else◌}
use Rattle.std.proofs.lemmas.Bool.Decides.{eqb_tells}
use Rattle.omx_types.specs.declared.fault.PartFault.{PartFault}
use Rattle.part_api.specs.Terms.{Terms}
use Rattle.il_machine.specs.declared.port.Port.{Port}
use Rattle.il_machine.specs.Settings.{same_format}
use Rattle.il_machine.specs.World.{Component, Stream, Work, World, component_numbered, number_of, port_of, stream_of, is_stream_of, with_component, with_stream}
use Rattle.il_machine.specs.Parts.{terms_of, file_format}
use Rattle.il_machine.specs.Files.{Offered, attached, stream_with, with_file}
use Rattle.il_machine.specs.Claims.{all_given_out, seen_work, with_work}
use Rattle.il_machine.specs.Stepping.{WorkDone}
use Rattle.il_machine.specs.Finishing.{part_by, part_after, gone_through, announced, announced_at, stepped_back, with_landed}
use Rattle.il_machine.specs.Whole.{PartSeen, HasDone, HasParts, IsOut}
use Rattle.il_machine.proofs.Carrying.{held_out, carried_same}
use Rattle.stock_laws.proofs.Lists.{get_set_same, get_set_other}
use Rattle.stock_laws.proofs.Noting.{IsOnly}
use Rattle.stock_laws.proofs.Parts.{done_alike}

-- ---- one stream changes

find_own : (k : ℕ) (f : Stream → Stream) (ss : List Stream) → ((s : Stream) → (f s).component ≡ s.component) → find (is_stream_of k) (map (λ s. if is_stream_of k s then f s else s) ss) ≡ option_map f (find (is_stream_of k) ss)
find_own k f [] h = refl
find_own k f (s ∷ ss) h = elim (is_stream_of k s) as (λ b. is_stream_of k s ≡ b → find (is_stream_of k) (map (λ x. if is_stream_of k x then f x else x) (s ∷ ss)) ≡ option_map f (find (is_stream_of k) (s ∷ ss))) [
  | true ↦ λ e.
      let c : (f s).component ≡ k = h s ∙ eqb-true _ _ e in
      let t : is_stream_of k (f s) ≡ true = eq-eqb (f s).component k c in
      rw (e, t) refl
  | false ↦ λ e. rw (e, e) (find_own k f ss h)
] refl

find_kept : (k n : ℕ) (f : Stream → Stream) (ss : List Stream) → ((s : Stream) → (f s).component ≡ s.component) → n ≢ k → find (is_stream_of n) (map (λ s. if is_stream_of k s then f s else s) ss) ≡ find (is_stream_of n) ss
find_kept k n f [] h a = refl
find_kept k n f (s ∷ ss) h a = elim (is_stream_of k s) as (λ b. is_stream_of k s ≡ b → find (is_stream_of n) (map (λ x. if is_stream_of k x then f x else x) (s ∷ ss)) ≡ find (is_stream_of n) (s ∷ ss)) [
  | true ↦ λ e.
      let c : s.component ≡ k = eqb-true _ _ e in
      let x : is_stream_of n s ≡ false = ne_eqb s.component n (λ q. a (sym q ∙ c)) in
      let y : is_stream_of n (f s) ≡ false = ne_eqb (f s).component n (λ q. a (sym q ∙ (h s ∙ c))) in
      rw (e, x, y) (find_kept k n f ss h a)
  | false ↦ λ e. elim (is_stream_of n s) as (λ b. is_stream_of n s ≡ b → find (is_stream_of n) (map (λ x. if is_stream_of k x then f x else x) (s ∷ ss)) ≡ find (is_stream_of n) (s ∷ ss)) [
    | true ↦ λ q. rw (e, q) refl
    | false ↦ λ q. rw (e, q) (find_kept k n f ss h a)
  ] refl
] refl

pub streams_kept : (k : ℕ) (f : Stream → Stream) (ss : List Stream) → ((s : Stream) → (f s).component ≡ s.component) → map (λ s. s.component) (map (λ s. if is_stream_of k s then f s else s) ss) ≡ map (λ s. s.component) ss
streams_kept k f [] h = refl
streams_kept k f (s ∷ ss) h =
    let i = streams_kept k f ss h in
    let c = h s in
    elim (is_stream_of k s) as (λ b. is_stream_of k s ≡ b → map (λ x. x.component) (map (λ x. if is_stream_of k x then f x else x) (s ∷ ss)) ≡ map (λ x. x.component) (s ∷ ss)) [ true ↦ λ e. rw e cc | false ↦ λ e. rw e cc ] refl

some_mapped : (f : Stream → Stream) (o : Option Stream) (s : Stream) → option_map f o ≡ Some s → (x : Stream) × (o ≡ Some x) × (f x ≡ s)
some_mapped f None s e = absurd cc
some_mapped f (Some x) s e = (x, refl, cc)

-- ---- one component has another part, and its stream changed

-- the component at the place gives way to another of its number, whose stream is changed
abbrev pub with_both : ℕ → Component → ℕ → (Stream → Stream) → World → World
with_both i d k f w = with_stream k f (with_component i d w)

parts_both : (parts : List (Option PartSeen)) (w : World) (i : ℕ) (c d : Component) (f : Stream → Stream) (q : Option PartSeen) (p : PartSeen) → slice_get w.components i ≡ Some c → IsOnly i c w.components → number_of d ≡ number_of c
    → ((s : Stream) → (f s).component ≡ s.component) → slice_get parts i ≡ Some q → ((s : Stream) → stream_of (number_of c) w ≡ Some s → HasDone (terms_of d) d.part.failed (f s) p)
    → HasParts parts w → HasParts (set parts i (Some p)) (with_both i d (number_of c) f w)
parts_both parts w i c d f q p at only n h there H P = λ j x s e out st.
    let own : j ≡ i → (y : PartSeen) × (slice_get (set parts i (Some p)) j ≡ Some (Some y)) × HasDone (terms_of x) x.part.failed s y = λ z.
    let g : Some x ≡ Some d = sym e ∙ rw z (get_set_same w.components i c d at) in
    let r : x ≡ d = cc in
    let k : number_of x ≡ number_of c = ap number_of r ∙ n in
    let m : option_map f (stream_of (number_of c) w) ≡ Some s = sym (find_own (number_of c) f w.streams h) ∙ (ap (λ (y : ℕ). stream_of y (with_both i d (number_of c) f w)) (sym k) ∙ st) in
    let u = some_mapped f (stream_of (number_of c) w) s m in
    (p, rw z (get_set_same parts i q (Some p) there), subst (λ (y : Component). HasDone (terms_of y) y.part.failed s p) (sym r) (subst (λ (y : Stream). HasDone (terms_of d) d.part.failed y p) u.2 (H u.0 u.1))) in
    let other : j ≢ i → (y : PartSeen) × (slice_get (set parts i (Some p)) j ≡ Some (Some y)) × HasDone (terms_of x) x.part.failed s y = λ z.
    let here : slice_get w.components j ≡ Some x = sym (get_set_other w.components i j d z) ∙ e in
    let a = only j x here z in
    let y = P j x s here out (sym (find_kept (number_of c) (number_of x) f w.streams h a) ∙ st) in
    (y.0, get_set_other parts i j (Some p) z ∙ y.1, y.2) in
    elim (eqb_tells j i) [ inl z ↦ own z.1 | inr z ↦ other z.1 ]

-- a file comes to a component with a part that has had nothing through it since
pub parts_attached : (parts : List (Option PartSeen)) (w : World) (i : ℕ) (c : Component) (file : Offered) (q : Option PartSeen) (p : PartSeen) → slice_get w.components i ≡ Some c → IsOnly i c w.components → slice_get parts i ≡ Some q
    → ((s : Stream) → stream_of (number_of c) w ≡ Some s → HasDone (terms_of (record c { file = Some (attached file) })) c.part.failed (stream_with file s) p)
    → HasParts parts w → HasParts (set parts i (Some p)) (with_file i c file w)
parts_attached parts w i c file q p at only there H P = parts_both parts w i c (record c { file = Some (attached file) }) (stream_with file) q p at only refl (λ s. refl) there H P

-- ---- a work goes out

pub parts_claimed : (parts : List (Option PartSeen)) (w : World) (i : ℕ) (c : Component) (work : Work) → slice_get w.components i ≡ Some c → HasParts parts w → HasParts (set parts i None) (with_work i c work w)
parts_claimed parts w i c work at P = λ j x s e out st.
    let d : Component = record c { work = Some work } in
    let own : j ≡ i → (y : PartSeen) × (slice_get (set parts i None) j ≡ Some (Some y)) × HasDone (terms_of x) x.part.failed s y = λ z.
    let g : Some x ≡ Some d = sym e ∙ rw z (get_set_same w.components i c d at) in
    let r : x ≡ d = cc in
    let a : Some work ≡ None = sym (ap (λ (y : Component). y.work) r) ∙ out in
    absurd cc in
    let other : j ≢ i → (y : PartSeen) × (slice_get (set parts i None) j ≡ Some (Some y)) × HasDone (terms_of x) x.part.failed s y = λ z.
    let y = P j x s (sym (get_set_other w.components i j d z) ∙ e) out st in
    (y.0, get_set_other parts i j None z ∙ y.1, y.2) in
    elim (eqb_tells j i) [ inl z ↦ own z.1 | inr z ↦ other z.1 ]

-- the work that went out is the one that the world shows, with the part that was kept
pub out_claimed : (w : World) (i : ℕ) (c : Component) (work : Work) (s : Stream) (p : PartSeen) → component_numbered (number_of c) (with_work i c work w) ≡ Some (record c { work = Some work }) → stream_of (number_of c) w ≡ Some s
    → HasDone (terms_of c) c.part.failed s p → IsOut (with_work i c work w) (seen_work c work w.headers) p
out_claimed w i c work s p n st H =
    let e = carried_same w.headers (all_given_out (number_of c) work.headers w.headers) work.headers (λ j x f. held_out x.number (number_of c) work.headers w.headers) in
    rw (n, st) (rw e refl, H)

-- ---- a work comes back

-- what is claimed of a part that didn't fail is more than what is of one that did
pub done_less : (t : Terms) (f g : Bool) (s : Stream) (p : PartSeen) → (g ≡ false → f ≡ false) → HasDone t f s p → HasDone t g s p
done_less t f g s p k H = record { left = H.left; rest = λ h e. H.rest h (k e); kept = H.kept; writing = λ n h e. H.writing n h (k e) }

failed_after : (c : Component) (s : Stream) (done : WorkDone) (o : Option PartFault) → (part_by c s done o).failed ≡ false → is_some o ≡ false
failed_after c s done None e = refl
failed_after c s done (Some fault) e = absurd cc

pub parts_landed : (parts : List (Option PartSeen)) (w : World) (i : ℕ) (c : Component) (done : WorkDone) (s : Stream) (q : Option PartSeen) (p : PartSeen) → slice_get w.components i ≡ Some c → IsOnly i c w.components → slice_get parts i ≡ Some q
    → stream_of (number_of c) w ≡ Some s → HasDone (terms_of c) (is_some done.fault) (gone_through done s) p → HasParts parts w → HasParts (set parts i (Some p)) (with_landed i c done s w)
parts_landed parts w i c done s q p at only there st H P =
    parts_both parts w i c (stepped_back c s done) (gone_through done) q p at only refl (λ x. refl) there
    (λ x e.
    let a : Some s ≡ Some x = sym st ∙ e in
    let b : s ≡ x = cc in
    let D : HasDone (terms_of c) (part_after c s done).failed (gone_through done s) p = done_less (terms_of c) (is_some done.fault) (part_after c s done).failed (gone_through done s) p (failed_after c s done done.fault) H in
    subst (λ (y : Stream). HasDone (terms_of c) (part_after c s done).failed (gone_through done y) p) b D) P

-- an announcement leaves the kind, the file and the part
record KeepsAll (c d : Component) : Type 0 where
  number : number_of d ≡ number_of c
  kind : d.settings.kind ≡ c.settings.kind
  file : d.file ≡ c.file
  part : d.part ≡ c.part

announced_keeps : (c : Component) (o : Option Port) → KeepsAll c (announced_at o (record c { work = None }))
announced_keeps c None = record { number = refl; kind = refl; file = refl; part = refl }
announced_keeps c (Some p) = elim (same_format p.setting.definition.format (file_format c.file)) as (λ b. same_format p.setting.definition.format (file_format c.file) ≡ b → KeepsAll c (announced_at (Some p) (record c { work = None }))) [
  | true ↦ λ e. rw e (record { number = refl; kind = refl; file = refl; part = refl })
  | false ↦ λ e. rw e (record { number = refl; kind = refl; file = refl; part = refl })
] refl

same_streams : (k : ℕ) (ss : List Stream) → map (λ s. if is_stream_of k s then s else s) ss ≡ ss
same_streams k [] = refl
same_streams k (s ∷ ss) = elim (is_stream_of k s) as (λ b. is_stream_of k s ≡ b → map (λ x. if is_stream_of k x then x else x) (s ∷ ss) ≡ s ∷ ss) [ true ↦ λ e. rw e (ap (λ (l : List Stream). s ∷ l) (same_streams k ss)) | false ↦ λ e. rw e (ap (λ (l : List Stream). s ∷ l) (same_streams k ss)) ] refl

pub parts_told : (parts : List (Option PartSeen)) (w : World) (i : ℕ) (c : Component) (s : Stream) (q : Option PartSeen) (p : PartSeen) → slice_get w.components i ≡ Some c → IsOnly i c w.components → slice_get parts i ≡ Some q
    → stream_of (number_of c) w ≡ Some s → HasDone (terms_of c) c.part.failed s p → HasParts parts w → HasParts (set parts i (Some p)) (with_component i (announced c) w)
parts_told parts w i c s q p at only there st H P =
    let K = announced_keeps c (port_of c 0) in
    let d : Component = announced c in
    let B = parts_both parts w i c d (λ x. x) q p at only K.number (λ x. refl) there (λ x e.
    let a : Some s ≡ Some x = sym st ∙ e in
    let b : s ≡ x = cc in
    subst (λ (y : Stream). HasDone (terms_of d) d.part.failed y p) b (done_alike (terms_of c) (terms_of d) c.part.failed d.part.failed s p K.kind K.file (ap (λ y. y.failed) K.part) H)) P in
    subst (λ (ss : List Stream). HasParts (set parts i (Some p)) (record (with_component i d w) { streams = ss })) (same_streams (number_of c) w.streams) B

-- a step of no frames that wrote nothing leaves its stream
pub through_nothing : (done : WorkDone) (s : Stream) → done.frames ≡ 0 → done.took ≡ [] → gone_through done s ≡ s
through_nothing done s f t =
    let a : s.frames + done.frames ≡ s.frames = omega arith in
    let b : s.written ++ done.took ≡ s.written = rw t (append-nil s.written) in
    λ i. record { component = s.component; frames = a i; known = s.known; written = b i }
