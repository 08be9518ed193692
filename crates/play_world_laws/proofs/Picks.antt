-- The headers of a component's work by the links that they belong to.
use Rattle.std.proofs.Common.{◌≡◌, ◌≢◌, ◌⊎◌, inl, inr, ℕ, zero, suc, ◌<◌, ◌≤◌, Bool, true, false, ◌&&◌, List, [], ◌∷◌, map, set, slice_get, Option, Some, option_and_then, refl, sym, ◌∙◌, ap, subst, eq-eqb, ne_eqb, arith}
use Rattle.std.proofs.lemmas.Bool.{cases_eq}
use Rattle.il_machine.specs.declared.port.PortKey.{PortKey}
use Rattle.il_machine.specs.declared.port.Port.{Port}
use Rattle.il_machine.specs.World.{Component, HeaderRecord, Picked}
use Rattle.il_machine.specs.Headers.{Seen, same_key}
use Rattle.il_machine.specs.Lists.{is_empty}
use Rattle.il_machine.specs.Claims.{first_picked, picked}
use Rattle.il_machine.specs.Sound.{ArePicked}
use Rattle.machine_laws.proofs.Every.{set_there, set_else}
use Rattle.play_model.specs.Play.{Play}
use Rattle.play_world_laws.specs.View.{LinkEnds, link_view, picked_at, worked_at}
use Rattle.play_world_laws.specs.Cast.{Cast, IsCast, links_of, script_place, output_at, input_at}
use Rattle.play_world_laws.specs.Wiring.{work_in, ends_of}
use Rattle.play_world_laws.proofs.Flowing.{key_not}
use Rattle.play_world_laws.proofs.Handing.{not_empty}
use Rattle.play_world_laws.proofs.Wanted.{end_at, IsLinkAt, link_below, end_place}

-- ---- the front of each port's todo

pub picked_ports : (s : Seen) (ps : List Port) → ((j : ℕ) (q : Port) → slice_get ps j ≡ Some q → is_empty (s.todo q.key) ≡ false) → map (λ (y : Picked). y.port) (picked s ps) ≡ map (λ (q : Port). q.key.port) ps
picked_ports s [] h = refl
picked_ports s (q ∷ ps) h =
    let k = not_empty (s.todo q.key) (h 0 q refl) in
    let i = picked_ports s ps (λ j y e. h (suc j) y e) in
    rw k.2 (ap (λ (l : List ℕ). q.key.port ∷ l) i)

first_todo : (q : Port) (t : List ℕ) (rest : List Picked) (j : ℕ) (y : Picked) → slice_get (first_picked q t rest) j ≡ Some y
    → ((y.port ≡ q.key.port) × (ns : List ℕ) × (t ≡ y.number ∷ ns)) ⊎ ((k : ℕ) × (slice_get rest k ≡ Some y))
first_todo q [] rest j y e = inr (j, e)
first_todo q (n ∷ t) rest zero y e =
    let z : Picked = record { port = q.key.port; number = n } in
    let s : z ≡ y = cc in
    inl (ap (λ (u : Picked). u.port) (sym s), t, ap (λ (u : Picked). u.number ∷ t) s)
first_todo q (n ∷ t) rest (suc j) y e = inr (j, e)

pub picked_todo : (s : Seen) (ps : List Port) (j : ℕ) (y : Picked) → slice_get (picked s ps) j ≡ Some y
    → (q : Port) × (i : ℕ) × (slice_get ps i ≡ Some q) × (y.port ≡ q.key.port) × (ns : List ℕ) × (s.todo q.key ≡ y.number ∷ ns)
picked_todo s [] j y e = absurd cc
picked_todo s (q ∷ ps) j y e = elim (first_todo q (s.todo q.key) (picked s ps) j y e) [
  | inl h ↦ (q, 0, refl, h.0, h.1, h.2)
  | inr h ↦ let r = picked_todo s ps h.0 y h.1 in (r.0, suc r.1, r.2, r.3, r.4, r.5)
]

-- ---- ports rise

low_port : (from n : ℕ) (xs : List Picked) (j : ℕ) (y : Picked) → ArePicked from xs n → slice_get xs j ≡ Some y → from ≤ y.port
low_port from n [] j y A e = absurd cc
low_port from n (z ∷ xs) zero y A e = let s : z ≡ y = cc in subst (λ (u : Picked). from ≤ u.port) s A.0
low_port from n (z ∷ xs) (suc j) y A e = let i = low_port (suc z.port) n xs j y A.2 e in omega (arith, A.0)

pub picks_rise : (from n : ℕ) (xs : List Picked) (i j : ℕ) (u y : Picked) → ArePicked from xs n → i < j → slice_get xs i ≡ Some u → slice_get xs j ≡ Some y → u.port < y.port
picks_rise from n [] i j u y A l e f = absurd cc
picks_rise from n (z ∷ xs) i zero u y A l e f = absurd (omega arith)
picks_rise from n (z ∷ xs) zero (suc j) u y A l e f = let s : z ≡ u = cc in let i = low_port (suc z.port) n xs j y A.2 f in subst (λ (t : Picked). t.port < y.port) s (omega arith)
picks_rise from n (z ∷ xs) (suc i) (suc j) u y A l e f = picks_rise (suc z.port) n xs i j u y A.2 (omega arith) e f

pub picks_differ : (from n : ℕ) (xs : List Picked) (i j : ℕ) (u y : Picked) → ArePicked from xs n → i ≢ j → slice_get xs i ≡ Some u → slice_get xs j ≡ Some y → u.port ≢ y.port
picks_differ from n xs i j u y A d e f s = elim (cases_eq i j) [
  | inl t ↦ d t
  | inr t ↦ elim (apart_ways i j t) [
    | inl l ↦ let h = picks_rise from n xs i j u y A l e f in omega arith
    | inr l ↦ let h = picks_rise from n xs j i y u A l f e in omega arith
  ]
]
  where
    apart_ways : (i j : ℕ) → i ≢ j → (i < j) ⊎ (j < i)
    apart_ways zero zero n = absurd (n refl)
    apart_ways zero (suc j) n = inl (omega arith)
    apart_ways (suc i) zero n = inr (omega arith)
    apart_ways (suc i) (suc j) n = elim (apart_ways i j (λ e. n (ap suc e))) [ inl h ↦ inl (omega arith) | inr h ↦ inr (omega arith) ]

pub picked_none : (port : ℕ) (xs : List Picked) → ((j : ℕ) (y : Picked) → slice_get xs j ≡ Some y → y.port ≢ port) → picked_at port xs ≡ []
picked_none port [] h = refl
picked_none port (y ∷ xs) h = rw (ne_eqb y.port port (h 0 y refl)) (picked_none port xs (λ j z e. h (suc j) z e))

pub picked_one : (from n : ℕ) (xs : List Picked) (j : ℕ) (y : Picked) → ArePicked from xs n → slice_get xs j ≡ Some y → picked_at y.port xs ≡ y.number ∷ []
picked_one from n [] j y A e = absurd cc
picked_one from n (z ∷ xs) zero y A e =
    let s : z ≡ y = cc in
    let none = picked_none z.port xs (λ j u f g. let l = low_port (suc z.port) n xs j u A.2 f in omega arith) in
    subst (λ (u : Picked). picked_at u.port (z ∷ xs) ≡ u.number ∷ []) s (rw (eq-eqb z.port z.port refl) (ap (λ (l : List ℕ). z.number ∷ l) none))
picked_one from n (z ∷ xs) (suc j) y A e =
    let l = low_port (suc z.port) n xs j y A.2 e in
    rw (ne_eqb z.port y.port (λ t. omega arith)) (picked_one (suc z.port) n xs j y A.2 e)

-- ---- works of a list of components in which one was given another work

module _ (cs : List Component) (i : ℕ) (a d : Component) (e : slice_get cs i ≡ Some a) where
  pub works_here : (key : PortKey) → key.component ≡ i → work_in (set cs i d) key ≡ worked_at d.work key.port
  works_here key n = ap (λ (o : Option Component). worked_at (option_and_then (λ y. y.work) o) key.port) (ap (slice_get (set cs i d)) n ∙ set_there cs i a d e)

  pub works_else : (key : PortKey) → key.component ≢ i → work_in (set cs i d) key ≡ work_in cs key
  works_else key n = ap (λ (o : Option Component). worked_at (option_and_then (λ y. y.work) o) key.port) (set_else cs i key.component d n)

-- the ends of a link with these headers of works
abbrev pub ends_with : Cast → Play → ℕ → List ℕ → List ℕ → LinkEnds
ends_with x p l filling draining = record {
  unit = x.unit l;
  output = output_at x l;
  input = input_at x l;
  filling = filling;
  draining = draining;
  taken = ((p.flow).link l).taken;
  closed = ((p.flow).link l).closed;
}

pub seen_with : (x : Cast) (works : PortKey → List ℕ) (p : Play) (l : ℕ) (hs : List HeaderRecord) (f d : List ℕ) → works (output_at x l) ≡ f → works (input_at x l) ≡ d → link_view (ends_of x works p l) hs ≡ link_view (ends_with x p l f d) hs
seen_with x works p l hs f d a b = λ i. link_view (ends_with x p l (a i) (b i)) hs

-- ---- a header of the work, and its link

pub record IsPick (x : Cast) (p : Play) (c : ℕ) (xs : List Picked) (j : ℕ) (y : Picked) (l : ℕ) (input : Bool) : Type 0 where
  pub there : slice_get xs j ≡ Some y
  pub of_link : IsLinkAt input (x.layout).network c l
  pub port : y.port ≡ (end_at input x l).port
  pub open_ : (input && ((p.flow).link l).closed) ≡ false

-- its port's key
abbrev pub pick_key : Cast → ℕ → Picked → PortKey
pick_key x c y = record { component = script_place x c; port = y.port }

pub ends_differ : (x : Cast) (C : IsCast x) (s t : Bool) (k l : ℕ) → k < links_of x → l < links_of x → k ≢ l → end_at s x k ≢ end_at t x l
ends_differ x C true true k l a b n e = n (C.inputs k l a b e)
ends_differ x C true false k l a b n e = C.beside l k b a (sym e)
ends_differ x C false true k l a b n e = C.beside k l a b e
ends_differ x C false false k l a b n e = n (C.outputs k l a b e)

module _ (x : Cast) (p : Play) (C : IsCast x) (c : ℕ) (xs : List Picked) where
  pub key_is_end : (j l : ℕ) (y : Picked) (input : Bool) → IsPick x p c xs j y l input → pick_key x c y ≡ end_at input x l
  key_is_end j l y input P =
      let m = end_place input x c l P.of_link in
      let n = P.port in
      λ i. record { component = sym m i; port = n i }

  -- no end of another link
  pub beside_ends : (j l k : ℕ) (y : Picked) (input : Bool) → IsPick x p c xs j y l input → k < links_of x → k ≢ l → (same_key (output_at x k) (pick_key x c y) ≡ false) × (same_key (input_at x k) (pick_key x c y) ≡ false)
  beside_ends j l k y input P b n =
      let e = key_is_end j l y input P in
      let d = link_below input (x.layout).network c l P.of_link in (
        key_not (output_at x k) (pick_key x c y) (λ f. ends_differ x C false input k l b d n (f ∙ e)),
        key_not (input_at x k) (pick_key x c y) (λ f. ends_differ x C true input k l b d n (f ∙ e)),
      )

  one_side : (s t : Bool) (l : ℕ) → l < links_of x → IsLinkAt s (x.layout).network c l → IsLinkAt t (x.layout).network c l → s ≡ t
  one_side true true l b I J = refl
  one_side false false l b I J = refl
  one_side true false l b I J = let o = ((C.layout).network).order l b in let m = I.taken_by in let n = J.given_by in absurd (omega arith)
  one_side false true l b I J = let o = ((C.layout).network).order l b in let m = J.taken_by in let n = I.given_by in absurd (omega arith)

  -- two headers belong to two links
  pub links_differ : (from n : ℕ) → ArePicked from xs n → (i j k l : ℕ) (u y : Picked) (s t : Bool) → IsPick x p c xs i u k s → IsPick x p c xs j y l t → i ≢ j → k ≢ l
  links_differ from n A i j k l u y s t P Q d e =
      let b = link_below t (x.layout).network c l Q.of_link in
      let same : s ≡ t = one_side s t l b (subst (λ (m : ℕ). IsLinkAt s (x.layout).network c m) e P.of_link) Q.of_link in
      let ports : u.port ≡ y.port = P.port ∙ ((λ m. (end_at (same m) x (e m)).port) ∙ sym Q.port) in
      picks_differ from n xs i j u y A d P.there Q.there ports
