-- The component of a graph at the place that a call names: it is there, and what the call asks of it holds.
use Rattle.std.proofs.Common.{◌≡◌, ◌≢◌, ◌<◌, ◌≤◌, ℕ, List, length, MatchOption, HoldsAt, Bor, option_copied, set, get_or, slice_get, Option, Some, None, IsSomeAnd, is_some, false, refl, sym, ◌∙◌, ap, subst, length-set}
use Rattle.std.specs.Prelude.{IsSome}
use Rattle.std.proofs.lemmas.Option.{slice_get-get_or, slice_get_past}
use Rattle.il_machine.specs.declared.answer.Progress.{Progress}
use Rattle.il_machine.specs.declared.port.Port.{Port}
use Rattle.il_machine.specs.Look.{Look, look}
use Rattle.il_machine.specs.World.{Component, World, port_of}
use Rattle.stock_laws.proofs.Lists.{get_set_other}
use Rattle.il_component.specs.Entries.{Entry, component_of}
use Rattle.graph_core.specs.Entries.{Entries, component_at, components_of, look_of}
use Rattle.graph_core.proofs.Replacing.{there, within}

module _ {C : Type 0} where
  pub read : (es : List (Entry C)) (i : ℕ) (e : Entry C) → i < length es → e ≡ get_or es i e → slice_get es i ≡ Some e
  read es i e b is = slice_get-get_or es i e b ∙ ap Some (sym is)

  -- what a read of a place gives
  copied : (es : List (Entry C)) (i : ℕ) (r : Option (Bor (Entry C))) → MatchOption r (length es ≤ i) (λ x. (i < length es) × HoldsAt (λ e. x.now ≡ e) es i) → option_copied r ≡ slice_get es i
  copied es i None h = sym (slice_get_past es i h)
  copied es i (Some x) h = sym (read es i x.now h.0 (h.1 x.now))

  pub copied_as : (es ds : List (Entry C)) → ds ≡ es → (i : ℕ) (r : Option (Bor (Entry C))) → MatchOption r (length ds ≤ i) (λ x. (i < length ds) × HoldsAt (λ e. x.now ≡ e) ds i) → option_copied r ≡ slice_get es i
  copied_as es ds is i r h = copied ds i r h ∙ ap (λ (xs : List (Entry C)). slice_get xs i) is

  -- the entry of another place was changed before
  pub read_after : (es : List (Entry C)) (i j : ℕ) (e' d : Entry C) → i ≢ j → j < length es → d ≡ get_or (set es i e') j d → slice_get es j ≡ Some d
  read_after es i j e' d apart b is =
      sym (get_set_other es i j e' (λ q. apart (sym q))) ∙ read (set es i e') j d (subst (λ (n : ℕ). j < n) (sym (length-set es i e')) b) is

  pub one_entry : (es : List (Entry C)) (i : ℕ) (e d : Entry C) → slice_get es i ≡ Some e → slice_get es i ≡ Some d → e ≡ d
  one_entry es i e d at at' = let two : Some e ≡ Some d = sym at ∙ at' in cc

-- what something is asked of is there
is_some_and : {A : Type 0} (o : Option A) (P : A → Type 0) → IsSomeAnd o P → o ≡ None → ⊥
is_some_and {A = A} o P h none = subst (λ (x : Option A). IsSomeAnd x P) none h

is_there : {A : Type 0} (o : Option A) → IsSome o → o ≡ None → ⊥
is_there o h none = let z : is_some o ≡ false = ap is_some none in cc

-- the entry is the one at the place, and what is asked of it holds
pub record IsHere {C : Type 0} (g : Entries C) (i : ℕ) (P : Entries C → Component → Type 0) (e : Entry C) : Type 0 where
  pub at : slice_get g.entries i ≡ Some e
  pub has : P g (component_of e)

-- the same of one of its ports
pub record IsPortHere {C : Type 0} (g : Entries C) (i index : ℕ) (P : Entries C → Component → Port → Type 0) (e : Entry C) (p : Port) : Type 0 where
  pub at : slice_get g.entries i ≡ Some e
  pub here : port_of (component_of e) index ≡ Some p
  pub has : P g (component_of e) p

-- the entry is the one at the place, and its component is chosen among all
pub record IsChosen {C : Type 0} (g : Entries C) (i : ℕ) (choose : List Component → Option Component) (e : Entry C) : Type 0 where
  pub at : slice_get g.entries i ≡ Some e
  pub first : choose (components_of g.entries) ≡ Some (component_of e)

module _ {C : Type 0} (progress : C → Progress) where
  pub bounds_of : (g v : Entries C) → g ≡ v → (i len : ℕ) → len ≡ length g.entries → i < length v.entries → i < len
  bounds_of g v sees i len is b = subst (λ (n : ℕ). i < n) (ap (λ (x : Entries C). length x.entries) (sym sees) ∙ sym is) b

  pub found_of : (g v : Entries C) → g ≡ v → (i : ℕ) → i < length v.entries → (e : Entry C) → e ≡ get_or g.entries i e → slice_get g.entries i ≡ Some e
  found_of g v sees i b e is = read g.entries i e (bounds_of g v sees i (length g.entries) refl b) is

  -- the component at the place is the one that is chosen among all
  pub chosen : (g v : Entries C) → g ≡ v → (i : ℕ) (choose : List Component → Option Component) → slice_get (components_of v.entries) i ≡ choose (components_of v.entries) → i < length v.entries → (e : Entry C) → e ≡ get_or g.entries i e → IsChosen g i choose e
  chosen g v sees i choose same b e is =
      let at : slice_get g.entries i ≡ Some e = found_of g v sees i b e is in
      let same-g : slice_get (components_of g.entries) i ≡ choose (components_of g.entries) = subst (λ (x : Entries C). slice_get (components_of x.entries) i ≡ choose (components_of x.entries)) (sym sees) same in
      record { at = at; first = sym same-g ∙ there progress g i e at }

  -- ---- where the graph g is seen as v, and something is asked of the component at a place

  module _ (g v : Entries C) (sees : g ≡ v) (i : ℕ) (P : Component → Type 0) (asked : IsSomeAnd (component_at i v) P) where
    pub is_within : i < length g.entries
    is_within = within progress g i P (subst (λ (x : Entries C). IsSomeAnd (component_at i x) P) (sym sees) asked)

    pub bounds : (len : ℕ) → len ≡ length g.entries → i < len
    bounds len is = subst (λ (n : ℕ). i < n) (sym is) is_within

    pub found : (e : Entry C) → e ≡ get_or g.entries i e → slice_get g.entries i ≡ Some e
    found e is = read g.entries i e is_within is

    pub asked_of : (e : Entry C) → e ≡ get_or g.entries i e → P (component_of e)
    asked_of e is = subst (λ (o : Option Component). IsSomeAnd o P) (ap (λ (x : Entries C). component_at i x) (sym sees) ∙ there progress g i e (found e is)) asked

  -- a port of it is there
  module _ (g v : Entries C) (sees : g ≡ v) (i index : ℕ) (e : Entry C) (is : e ≡ get_or g.entries i e) (o : Option Port) (reads : o ≡ port_of (component_of e) index) (none : o ≡ None) where
    pub port_has : (P : Component → Port → Type 0) → IsSomeAnd (component_at i v) (λ c. IsSomeAnd (port_of c index) (P c)) → ⊥
    port_has P asked = is_some_and (port_of (component_of e) index) (P (component_of e)) (asked_of g v sees i (λ c. IsSomeAnd (port_of c index) (P c)) asked e is) (sym reads ∙ none)

    pub port_is : IsSomeAnd (component_at i v) (λ c. IsSome (port_of c index)) → ⊥
    port_is asked = is_there (port_of (component_of e) index) (asked_of g v sees i (λ c. IsSome (port_of c index)) asked e is) (sym reads ∙ none)

  module _ (g v : Entries C) (sees : g ≡ v) (i : ℕ) (P : Entries C → Component → Type 0) (asked : IsSomeAnd (component_at i v) (P v)) where
    asked_now : IsSomeAnd (component_at i g) (P g)
    asked_now = subst (λ (x : Entries C). IsSomeAnd (component_at i x) (P x)) (sym sees) asked

    pub here : (e : Entry C) → e ≡ get_or g.entries i e → IsHere g i P e
    here e is =
        let at : slice_get g.entries i ≡ Some e = found g v sees i (P v) asked e is in
        record { at = at; has = subst (λ (o : Option Component). IsSomeAnd o (P g)) (there progress g i e at) asked_now }

  pub port_here : (g v : Entries C) → g ≡ v → (i index : ℕ) (P : Entries C → Component → Port → Type 0) → IsSomeAnd (component_at i v) (λ c. IsSomeAnd (port_of c index) (P v c)) → (e : Entry C) → e ≡ get_or g.entries i e → (o : Option Port) → o ≡ port_of (component_of e) index → (p : Port) → o ≡ Some p → IsPortHere g i index P e p
  port_here g v sees i index P asked e is o reads p some =
      let H = here g v sees i (λ x c. IsSomeAnd (port_of c index) (P x c)) asked e is in
      let there : port_of (component_of e) index ≡ Some p = sym reads ∙ some in
      record { at = H.at; here = there; has = subst (λ (x : Option Port). IsSomeAnd x (P g (component_of e))) there H.has }

  -- what a call asks of the components at two places
  module _ (g v : Entries C) (sees : g ≡ v) (i j : ℕ) (P : Entries C → Component → Component → Type 0) (asked : IsSomeAnd (component_at i v) (λ c. IsSomeAnd (component_at j v) (P v c))) (e : Entry C) (is : e ≡ get_or g.entries i e) where
    first : IsHere g i (λ x c. IsSomeAnd (component_at j x) (P x c)) e
    first = here g v sees i (λ x c. IsSomeAnd (component_at j x) (P x c)) asked e is

    pub first_found : slice_get g.entries i ≡ Some e
    first_found = first.at

    asked_second : IsSomeAnd (component_at j g) (P g (component_of e))
    asked_second = first.has

    pub second_within : j < length g.entries
    second_within = within progress g j (P g (component_of e)) asked_second

    pub second_there : slice_get g.entries j ≡ Some (get_or g.entries j e)
    second_there = slice_get-get_or g.entries j e second_within

    pub both_have : (d : Entry C) → slice_get g.entries j ≡ Some d → P g (component_of e) (component_of d)
    both_have d at = subst (λ (o : Option Component). IsSomeAnd o (P g (component_of e))) (there progress g j d at) asked_second

  -- a world that looks as the graph does has the component at the place
  pub looks_there : (g : Entries C) (w : World) (i : ℕ) (e : Entry C) → look w ≡ look_of g → slice_get g.entries i ≡ Some e → slice_get w.components i ≡ Some (component_of e)
  looks_there g w i e l at = ap (λ (x : Look). slice_get x.components i) l ∙ there progress g i e at
