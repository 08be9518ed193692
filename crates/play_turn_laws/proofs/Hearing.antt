-- A conductor hears what the components of a play have told.
use Rattle.std.proofs.Common.{◌≡◌, ◌⊎◌, inl, inr, ℕ, zero, suc, ◌<◌, ◌≤◌, Bool, true, false, ◌&&◌, ◌||◌, ◌==◌, nat_le, is_some, List, [], ◌∷◌, length, map, slice_get, Option, Some, None, refl, sym, ◌∙◌, ap, subst, eqb-true, eq-eqb, leb-true, leb-false, arith}
use Rattle.omx_types.specs.declared.command.Completion.{Completion}
use Rattle.omx_types.specs.declared.command.Completion.TheVariants as completions
use Rattle.il_machine.specs.declared.answer.Progress.{Progress}
use Rattle.il_machine.specs.World.{World}
use Rattle.machine_laws.proofs.Accepting.{both_of}
use Rattle.machine_laws.proofs.Finding.{either}
use Rattle.conductor.specs.declared.phase.LateLink.{LateLink}
use Rattle.conductor.specs.Hearing.{ConductorValue, heard_late, heard_lates, heard_views, is_disable, is_enable, tells_disable, tells_enable, heard as hears_all}
use Rattle.conductor.specs.Phases.{is_changed}
use Rattle.play_model.specs.Changes.{Change, IsInOrder, port_at}
use Rattle.play_model.specs.Play.{Play, component_at}
use Rattle.play_world_laws.specs.Cast.{Cast, IsCast, components_of, giver_of, links_of, script_place, taker_of}
use Rattle.play_world_laws.specs.Telling.{heard}
use Rattle.play_world_laws.proofs.Lists.{get_there}
use Rattle.play_plan_laws.specs.Conducting.{HasViews}
use Rattle.play_plan_laws.proofs.Conducting.{view_at, views_many}
use Rattle.play_world_laws.specs.Changing.{IsPast, told_of_port}
use Rattle.play_world_laws.specs.PlayWorlds.{HasHeard, IsPlayWorld, PlayCast, port_number}
use Rattle.play_turn_laws.specs.Conducting.{AreCarriedOut, AreLates, HasHeardOf, IsCarriedOut, IsLateAt, IsPlayConducting, IsPlayConductor, IsLateOf, IsToldBy, IsUnderWay}

-- ---- what is told of a port

pub disable_is : (port : ℕ) (told : Option Completion) → is_disable port told ≡ true → told ≡ Some (completions.Disable port)
disable_is port (Some (completions.Disable other)) h = ap (λ (n : ℕ). Some (completions.Disable n)) (eqb-true other port h)
disable_is port (Some (completions.Enable other)) h = absurd cc
disable_is port (Some (completions.State other)) h = absurd cc
disable_is port (Some (completions.Flush other)) h = absurd cc
disable_is port (Some (completions.Mark other)) h = absurd cc
disable_is port None h = absurd cc

pub enable_is : (port : ℕ) (told : Option Completion) → is_enable port told ≡ true → told ≡ Some (completions.Enable port)
enable_is port (Some (completions.Enable other)) h = ap (λ (n : ℕ). Some (completions.Enable n)) (eqb-true other port h)
enable_is port (Some (completions.Disable other)) h = absurd cc
enable_is port (Some (completions.State other)) h = absurd cc
enable_is port (Some (completions.Flush other)) h = absurd cc
enable_is port (Some (completions.Mark other)) h = absurd cc
enable_is port None h = absurd cc

or_true : (a b : Bool) → (a ≡ true) ⊎ (b ≡ true) → (a || b) ≡ true
or_true true b h = refl
or_true false b (inl e) = absurd cc
or_true false b (inr e) = e

or_none : (a b : Bool) → (a ≡ true → ⊥) → (b ≡ true → ⊥) → (a || b) ≡ false
or_none true b f g = absurd (f refl)
or_none false true f g = absurd (g refl)
or_none false false f g = refl

-- known once, or told now, exactly where the port has come so far
flag_is : (n m : ℕ) (old now : Bool) → (old ≡ true → m ≤ n) → (now ≡ true → m ≤ n) → (m ≤ n → (old ≡ true) ⊎ (now ≡ true)) → (old || now) ≡ nat_le m n
flag_is n m old now f g h = either (nat_le m n)
    (λ t. or_true old now (h (leb-true m n t)) ∙ sym t)
    (λ t. or_none old now (λ e. let a = f e in let b = leb-false m n t in absurd (omega arith)) (λ e. let a = g e in let b = leb-false m n t in absurd (omega arith)) ∙ sym t)

told_disabled : (n port : ℕ) → 4 ≤ n → n < 8 → told_of_port n port ≡ Some (completions.Disable port)
told_disabled zero port l m = absurd (omega arith)
told_disabled (suc zero) port l m = absurd (omega arith)
told_disabled (suc (suc zero)) port l m = absurd (omega arith)
told_disabled (suc (suc (suc zero))) port l m = absurd (omega arith)
told_disabled (suc (suc (suc (suc zero)))) port l m = refl
told_disabled (suc (suc (suc (suc (suc zero))))) port l m = refl
told_disabled (suc (suc (suc (suc (suc (suc zero)))))) port l m = refl
told_disabled (suc (suc (suc (suc (suc (suc (suc zero))))))) port l m = refl
told_disabled (suc (suc (suc (suc (suc (suc (suc (suc n)))))))) port l m = absurd (omega arith)

told_enabled : (n port : ℕ) → 8 ≤ n → told_of_port n port ≡ Some (completions.Enable port)
told_enabled zero port l = absurd (omega arith)
told_enabled (suc zero) port l = absurd (omega arith)
told_enabled (suc (suc zero)) port l = absurd (omega arith)
told_enabled (suc (suc (suc zero))) port l = absurd (omega arith)
told_enabled (suc (suc (suc (suc zero)))) port l = absurd (omega arith)
told_enabled (suc (suc (suc (suc (suc zero))))) port l = absurd (omega arith)
told_enabled (suc (suc (suc (suc (suc (suc zero)))))) port l = absurd (omega arith)
told_enabled (suc (suc (suc (suc (suc (suc (suc zero))))))) port l = absurd (omega arith)
told_enabled (suc (suc (suc (suc (suc (suc (suc (suc n)))))))) port l = refl

-- ---- lists

at_map : {X Y : Type 0} (f : X → Y) (xs : List X) (i : ℕ) (y : Y) → slice_get (map f xs) i ≡ Some y → (x : X) × (slice_get xs i ≡ Some x) × (f x ≡ y)
at_map f [] i y e = absurd cc
at_map f (x ∷ xs) zero y e = (x, refl, cc)
at_map f (x ∷ xs) (suc i) y e = at_map f xs i y e

map_there : {X Y : Type 0} (f : X → Y) (xs : List X) (i : ℕ) (x : X) → slice_get xs i ≡ Some x → slice_get (map f xs) i ≡ Some (f x)
map_there f [] i x e = absurd cc
map_there {X = X} f (y ∷ xs) zero x e = let s : y ≡ x = cc in ap (λ (z : X). Some (f z)) s
map_there f (y ∷ xs) (suc i) x e = map_there f xs i x e

-- ---- how far a change is, by the steps that were answered

pub steps_begun : (steps acts : ℕ) → IsUnderWay steps acts → 3 ≤ acts → 1 ≤ steps
steps_begun zero acts W l = absurd (omega arith)
steps_begun (suc n) acts W l = omega arith

pub steps_enabled : (steps acts : ℕ) → IsUnderWay steps acts → 9 ≤ acts → 2 ≤ steps
steps_enabled zero acts W l = absurd (omega arith)
steps_enabled (suc zero) acts W l = let m = W.1 in absurd (omega arith)
steps_enabled (suc (suc n)) acts W l = omega arith

pub three_steps : (late : LateLink) → is_changed late ≡ true → late.steps ≡ 3
three_steps late h = eqb-true late.steps 3 (both_of (late.steps == 3) (late.output_enabled && late.input_enabled) h).0

pub both_enabled : (late : LateLink) → is_changed late ≡ true → (late.output_enabled ≡ true) × (late.input_enabled ≡ true)
both_enabled late h = both_of late.output_enabled late.input_enabled (both_of (late.steps == 3) (late.output_enabled && late.input_enabled) h).1

-- what it knows of a port, at the output, else at the input
abbrev disabled_at : Bool → LateLink → Bool
disabled_at true late = late.output_disabled
disabled_at false late = late.input_disabled

abbrev enabled_at : Bool → LateLink → Bool
enabled_at true late = late.output_enabled
enabled_at false late = late.input_enabled

-- ---- one link

module _ (x : PlayCast) (recent : ℕ) (p : Play) (w : World) (W : IsPlayWorld x recent p w) (l : ℕ) (late : LateLink) (K : IsLateAt x.cast recent p l late) where
  abbrev k : Change
  k = p.change l

  abbrev O : IsLateOf x.cast l late
  O = K.of_link

  ordered : IsInOrder k
  ordered = ((W.reached).changes l O.below).order

  known_disabled : (s : Bool) → disabled_at s late ≡ true → 4 ≤ port_at s k
  known_disabled true h = (K.told).output_disabled h
  known_disabled false h = (K.told).input_disabled h

  known_enabled : (s : Bool) → enabled_at s late ≡ true → 8 ≤ port_at s k
  known_enabled true h = (K.told).output_enabled h
  known_enabled false h = (K.told).input_enabled h

  was_disabled : (s : Bool) → 2 ≤ late.steps → disabled_at s late ≡ true
  was_disabled true m = (both_of late.output_disabled late.input_disabled (K.disabled m)).0
  was_disabled false m = (both_of late.output_disabled late.input_disabled (K.disabled m)).1

  changed_enabled : (s : Bool) → is_changed late ≡ true → enabled_at s late ≡ true
  changed_enabled true h = (both_enabled late h).0
  changed_enabled false h = (both_enabled late h).1

  -- its port was disabled by so many acts of the conductor, and enabled by so many
  sent_first : (s : Bool) → 1 ≤ port_at s k → 3 ≤ k.step
  sent_first true m = either (nat_le 3 k.step) (λ t. leb-true 3 k.step t) (λ f. let n = leb-false 3 k.step f in let z = ordered.output_unsent (omega arith) in absurd (omega arith))
  sent_first false m = either (nat_le 3 k.step) (λ t. leb-true 3 k.step t) (λ f. let n = leb-false 3 k.step f in let z = ordered.input_unsent (omega arith) in absurd (omega arith))

  sent_last : (s : Bool) → 5 ≤ port_at s k → 9 ≤ k.step
  sent_last true m = either (nat_le 9 k.step) (λ t. leb-true 9 k.step t) (λ f. let n = leb-false 9 k.step f in let z = ordered.output_waits (omega arith) in absurd (omega arith))
  sent_last false m = either (nat_le 9 k.step) (λ t. leb-true 9 k.step t) (λ f. let n = leb-false 9 k.step f in let z = ordered.input_waits (omega arith) in absurd (omega arith))

  -- the link that was begun last, or one that is known to be changed
  latest_or_changed : (s : Bool) → 1 ≤ port_at s k → (l ≡ recent) ⊎ (is_changed late ≡ true)
  latest_or_changed s m = either (is_changed late) (λ t. inr t) (λ f. inl (K.latest (steps_begun late.steps k.step K.way (sent_first s m)) f))

  module _ (s : Bool) (c : ℕ) (at : component_at (x.cast).layout s l ≡ c) (h : Progress) (H : HasHeard x.cast recent p c h) where
    past : IsPast (port_at s k) (port_number x.cast s l) h.port
    past = H.past s l O.below at O.late

    -- of the link begun last the port's last completion is heard
    its_last : (d : Completion) → l ≡ recent → told_of_port (port_at s k) (port_number x.cast s l) ≡ Some d → h.port ≡ Some d
    its_last d e t =
        let r : recent < links_of x.cast = subst (λ (i : ℕ). i < links_of x.cast) e O.below in
        let g : component_at (x.cast).layout s recent ≡ c = subst (λ (i : ℕ). component_at (x.cast).layout s i ≡ c) e at in
        let u : ((x.cast).layout).is_late recent ≡ true = subst (λ (i : ℕ). ((x.cast).layout).is_late i ≡ true) e O.late in
        let v : told_of_port (port_at s (p.change recent)) (port_number x.cast s recent) ≡ Some d = subst (λ (i : ℕ). told_of_port (port_at s (p.change i)) (port_number x.cast s i) ≡ Some d) e t in
        H.port s r g u (ap (λ (o : Option Completion). is_some o) v) ∙ v

    disabled_flag : (port : ℕ) → port ≡ port_number x.cast s l → (disabled_at s late || is_disable port h.port) ≡ nat_le 4 (port_at s k)
    disabled_flag port e = flag_is (port_at s k) 4 (disabled_at s late) (is_disable port h.port) (known_disabled s)
        (λ t. past.0 (disable_is port h.port t ∙ ap (λ (n : ℕ). Some (completions.Disable n)) e))
        (λ m. either (nat_le 9 k.step)
        (λ t. inl (was_disabled s (steps_enabled late.steps k.step K.way (leb-true 9 k.step t))))
        (λ f. elim (latest_or_changed s (omega arith)) [
          | inl r ↦
              let n = leb-false 9 k.step f in
              let few : port_at s k < 8 = either (nat_le 5 (port_at s k)) (λ t. let q = leb-true 5 (port_at s k) t in let z = sent_last s q in absurd (omega arith)) (λ t. let q = leb-false 5 (port_at s k) t in omega arith) in
              inr (ap (is_disable port) (its_last (completions.Disable (port_number x.cast s l)) r (told_disabled (port_at s k) (port_number x.cast s l) m few)) ∙ eq-eqb (port_number x.cast s l) port (sym e))
          | inr d ↦ inl (was_disabled s (let z = three_steps late d in omega arith))
        ]))

    enabled_flag : (port : ℕ) → port ≡ port_number x.cast s l → (enabled_at s late || is_enable port h.port) ≡ nat_le 8 (port_at s k)
    enabled_flag port e = flag_is (port_at s k) 8 (enabled_at s late) (is_enable port h.port) (known_enabled s)
        (λ t. past.1 (enable_is port h.port t ∙ ap (λ (n : ℕ). Some (completions.Enable n)) e))
        (λ m. elim (latest_or_changed s (omega arith)) [
          | inl r ↦ inr (ap (is_enable port) (its_last (completions.Enable (port_number x.cast s l)) r (told_enabled (port_at s k) (port_number x.cast s l) m)) ∙ eq-eqb (port_number x.cast s l) port (sym e))
          | inr d ↦ inl (changed_enabled s d)
        ])

-- ---- which link it is

-- a late source has one link
pub one_link : (x : Cast) (k l : ℕ) (a b : LateLink) → IsCast x → IsLateOf x k a → IsLateOf x l b → a.source ≡ b.source → k ≡ l
one_link x k l a b C K L e =
    let place : script_place x (giver_of x k) ≡ script_place x (giver_of x l) = sym K.source ∙ (e ∙ L.source) in
    let port : x.output_port k ≡ x.output_port l = K.first ∙ sym L.first in
    C.outputs k l K.below L.below (λ i. record { component = place i; port = port i })

-- it is the same source, with the same link
pub of_same : (x : Cast) (l : ℕ) (a b : LateLink) → b.source ≡ a.source → b.taker ≡ a.taker → b.input ≡ a.input → IsLateOf x l a → IsLateOf x l b
of_same x l a b e f g O = record { below = O.below; late = O.late; source = e ∙ O.source; taker = f ∙ O.taker; input = g ∙ O.input; first = O.first }

pub giver_within : (x : Cast) (l : ℕ) → IsCast x → l < links_of x → giver_of x l < components_of x
giver_within x l C b = let o = (((C.layout).network).order) l b in let i = (((C.layout).network).inside) l b in omega arith

pub taker_within : (x : Cast) (l : ℕ) → IsCast x → l < links_of x → taker_of x l < components_of x
taker_within x l C b = (((C.layout).network).inside) l b

-- ---- what is heard of a link

changed_more : (late next : LateLink) → next.steps ≡ late.steps → (late.output_enabled ≡ true → next.output_enabled ≡ true) → (late.input_enabled ≡ true → next.input_enabled ≡ true) → is_changed late ≡ true → is_changed next ≡ true
changed_more late next e f g h =
    let t : (late.steps == 3) ≡ true = (both_of (late.steps == 3) (late.output_enabled && late.input_enabled) h).0 in
    let b = both_enabled late h in
    let u : (next.steps == 3) ≡ true = ap (λ (n : ℕ). n == 3) e ∙ t in
    let o = f b.0 in
    let i = g b.1 in
    rw (u, o, i) refl

-- where what it then holds for told of each is told
module _ (x : PlayCast) (recent : ℕ) (p : Play) (w : World) (W : IsPlayWorld x recent p w) (told : List Progress)
    (H : (l : ℕ) (late : LateLink) → IsLateAt x.cast recent p l late → IsToldBy (p.change l) (heard_late told late)) where
  heard_at : (l : ℕ) (late : LateLink) → IsLateAt x.cast recent p l late → IsLateAt x.cast recent p l (heard_late told late)
  heard_at l late K =
      let next : LateLink = heard_late told late in
      record {
        of_link = of_same x.cast l late next refl refl refl K.of_link;
        way = K.way;
        told = H l late K;
        disabled = λ m.
            let b = both_of late.output_disabled late.input_disabled (K.disabled m) in
            let o : next.output_disabled ≡ true = or_true late.output_disabled _ (inl b.0) in
            let i : next.input_disabled ≡ true = or_true late.input_disabled _ (inl b.1) in
            λ j. o j && i j;
        latest = λ m f. either (is_changed late)
            (λ t.
            let g = changed_more late next refl (λ e. or_true late.output_enabled _ (inl e)) (λ e. or_true late.input_enabled _ (inl e)) t in
            absurd cc)
            (λ u. K.latest m u);
      }

  pub lates_heard : (lates : List LateLink) → AreLates x.cast recent p lates → AreLates x.cast recent p (heard_lates told lates)
  lates_heard lates L = record {
    each = λ i late e. let a = at_map (heard_late told) lates i late e in let k = L.each i a.0 a.1 in (k.0, subst (λ (y : LateLink). IsLateAt x.cast recent p k.0 y) a.2 (heard_at k.0 a.0 k.1));
    some = λ l b t. let k = L.some l b t in (k.0, heard_late told k.1, map_there (heard_late told) lates k.0 k.1 k.2, heard_at l k.1 k.3);
    rising = λ i j a b h e f.
        let c = at_map (heard_late told) lates i a e in
        let d = at_map (heard_late told) lates j b f in
        let r = L.rising i j c.0 d.0 h c.1 d.1 in
        let m : (c.0).source ≡ a.source = ap (λ (y : LateLink). y.source) c.2 in
        let n : (d.0).source ≡ b.source = ap (λ (y : LateLink). y.source) d.2 in
        omega arith;
  }

  -- which it is of, it was
  heard_of : (lates : List LateLink) → AreLates x.cast recent p lates → (i l : ℕ) (next : LateLink) → slice_get (heard_lates told lates) i ≡ Some next → IsLateOf x.cast l next
      → (late : LateLink) × (slice_get lates i ≡ Some late) × (heard_late told late ≡ next) × IsLateAt x.cast recent p l late
  heard_of lates L i l next e N =
      let a = at_map (heard_late told) lates i next e in
      let k = L.each i a.0 a.1 in
      let same : k.0 ≡ l = one_link x.cast k.0 l a.0 next W.cast_is (k.1).of_link N (ap (λ (y : LateLink). y.source) a.2) in
      (a.0, a.1, a.2, subst (λ (m : ℕ). IsLateAt x.cast recent p m a.0) same k.1)

  pub carried_heard : (lates : List LateLink) → AreLates x.cast recent p lates → AreCarriedOut x.cast p lates → AreCarriedOut x.cast p (heard_lates told lates)
  carried_heard lates L D i l next e N =
      let h = heard_of lates L i l next e N in
      subst (λ (n : ℕ). IsCarriedOut n (p.change l).step) (ap (λ (y : LateLink). y.steps) h.2) (D i l h.0 h.1 (h.3).of_link)

module _ (x : PlayCast) (recent : ℕ) (p : Play) (w : World) (W : IsPlayWorld x recent p w) (told : List Progress)
    (T : (c : ℕ) → c < components_of x.cast → (h : Progress) × (slice_get told (script_place x.cast c) ≡ Some h) × HasHeard x.cast recent p c h) where
  module _ (l : ℕ) (late : LateLink) (K : IsLateAt x.cast recent p l late) where
    abbrev next : LateLink
    next = heard_late told late

    its : IsLateOf x.cast l late
    its = K.of_link

    giver_told : (h : Progress) × (slice_get told late.source ≡ Some h) × HasHeard x.cast recent p (giver_of x.cast l) h
    giver_told = let t = T (giver_of x.cast l) (giver_within x.cast l W.cast_is its.below) in (t.0, ap (slice_get told) its.source ∙ t.1, t.2)

    taker_told : (h : Progress) × (slice_get told late.taker ≡ Some h) × HasHeard x.cast recent p (taker_of x.cast l) h
    taker_told = let t = T (taker_of x.cast l) (taker_within x.cast l W.cast_is its.below) in (t.0, ap (slice_get told) its.taker ∙ t.1, t.2)

    pub knows : HasHeardOf (p.change l) next
    knows =
        let G = giver_told in
        let R = taker_told in
        record {
          output_disabled = ap (λ (o : Option Progress). late.output_disabled || tells_disable 0 o) G.1 ∙ disabled_flag x recent p w W l late K true (giver_of x.cast l) refl G.0 G.2 0 (sym its.first);
          input_disabled = ap (λ (o : Option Progress). late.input_disabled || tells_disable late.input o) R.1 ∙ disabled_flag x recent p w W l late K false (taker_of x.cast l) refl R.0 R.2 late.input its.input;
          output_enabled = ap (λ (o : Option Progress). late.output_enabled || tells_enable 0 o) G.1 ∙ enabled_flag x recent p w W l late K true (giver_of x.cast l) refl G.0 G.2 0 (sym its.first);
          input_enabled = ap (λ (o : Option Progress). late.input_enabled || tells_enable late.input o) R.1 ∙ enabled_flag x recent p w W l late K false (taker_of x.cast l) refl R.0 R.2 late.input its.input;
        }

    pub told_so : IsToldBy (p.change l) next
    told_so = record {
      output_disabled = λ t. leb-true 4 _ (sym knows.output_disabled ∙ t);
      input_disabled = λ t. leb-true 4 _ (sym knows.input_disabled ∙ t);
      output_enabled = λ t. leb-true 8 _ (sym knows.output_enabled ∙ t);
      input_enabled = λ t. leb-true 8 _ (sym knows.input_enabled ∙ t);
    }

  pub flags_heard : (lates : List LateLink) → AreLates x.cast recent p lates → (i l : ℕ) (next : LateLink) → slice_get (heard_lates told lates) i ≡ Some next → IsLateOf x.cast l next → HasHeardOf (p.change l) next
  flags_heard lates L i l next e N =
      let h = heard_of x recent p w W told told_so lates L i l next e N in
      subst (λ (y : LateLink). HasHeardOf (p.change l) y) h.2 (knows l h.0 h.3)

-- ---- the conductor

module _ (x : PlayCast) (recent : ℕ) (p : Play) (w : World) (W : IsPlayWorld x recent p w) (value : ConductorValue) (views : List (Option Progress)) (V : HasViews x.cast w value views) where
  heard_told : (c : ℕ) → c < components_of x.cast → (h : Progress) × (slice_get (heard_views value.told views) (script_place x.cast c) ≡ Some h) × HasHeard x.cast recent p c h
  heard_told c d =
      let b = (W.cast_is).placed c d in
      let m = W.many in
      let a = get_there w.components (script_place x.cast c) (omega arith) in
      let v = V.each c a.0 d a.1 in
      let is = v.now in
      (heard w a.0, view_at value.told views (script_place x.cast c) v.old v.view v.known v.there ∙ ap (λ (y : Progress). Some y) is, (W.actors c a.0 d a.1).heard_so)

  pub conductor_hears : IsPlayConducting x.cast recent p value → AreCarriedOut x.cast p value.lates → IsPlayConductor x.cast recent p (hears_all value views)
  conductor_hears D C =
      let told = heard_views value.told views in
      let n : length value.told ≡ length views = V.known_many ∙ sym V.many in
      let its = told_so x recent p w W told heard_told in
      record {
        conducting = record {
          sinks = record { many = (D.sinks).many; each = (D.sinks).each };
          many = views_many value.told views n ∙ D.many;
          lates = lates_heard x recent p w W told its value.lates D.lates;
          sends = D.sends;
        };
        told = heard_told;
        heard = flags_heard x recent p w W told heard_told value.lates D.lates;
        carried = carried_heard x recent p w W told its value.lates D.lates C;
      }
