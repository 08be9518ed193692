-- A conductor that hears old views knows no more than is so.
use Rattle.std.proofs.Common.{◌≡◌, inl, inr, ℕ, ◌<◌, ◌≤◌, Bool, true, false, ◌||◌, List, length, slice_get, Option, Some, None, refl, sym, ◌∙◌, ap}
use Rattle.std.specs.Prelude.{MatchOption}
use Rattle.std.proofs.lemmas.Bool.{or_cases}
use Rattle.omx_types.specs.declared.command.Completion.TheVariants as completions
use Rattle.il_machine.specs.declared.answer.Progress.{Progress}
use Rattle.il_machine.specs.World.{World}
use Rattle.conductor.specs.declared.phase.LateLink.{LateLink}
use Rattle.conductor.specs.Hearing.{ConductorValue, heard as hears_all, heard_late, heard_view, heard_views, is_disable, is_enable, tells_disable, tells_enable}
use Rattle.play_model.specs.Changes.{port_at}
use Rattle.play_model.specs.Play.{Play, component_at}
use Rattle.play_world_laws.specs.Cast.{components_of, giver_of, script_place, taker_of}
use Rattle.play_plan_laws.proofs.Conducting.{view_at, views_many}
use Rattle.play_world_laws.specs.PlayWorlds.{IsPlayWorld, PlayCast, port_number}
use Rattle.play_turn_laws.specs.Conducting.{IsLateAt, IsLateOf, IsToldBy}
use Rattle.play_turn_laws.proofs.Hearing.{carried_heard, disable_is, enable_is, giver_within, lates_heard, taker_within}
use Rattle.play_history_laws.specs.Behind.{AreOldViews, IsBehind, IsOld}

module _ (x : PlayCast) (recent : ℕ) (p : Play) (w : World) (W : IsPlayWorld x recent p w) (told : List Progress)
    (T : (c : ℕ) → c < components_of x.cast → (h : Progress) × (slice_get told (script_place x.cast c) ≡ Some h) × IsBehind x.cast p c h) where
  module _ (l : ℕ) (late : LateLink) (K : IsLateAt x.cast recent p l late) where
    abbrev next : LateLink
    next = heard_late told late

    its : IsLateOf x.cast l late
    its = K.of_link

    giver_told : (h : Progress) × (slice_get told late.source ≡ Some h) × IsBehind x.cast p (giver_of x.cast l) h
    giver_told = let t = T (giver_of x.cast l) (giver_within x.cast l W.cast_is its.below) in (t.0, ap (slice_get told) its.source ∙ t.1, t.2)

    taker_told : (h : Progress) × (slice_get told late.taker ≡ Some h) × IsBehind x.cast p (taker_of x.cast l) h
    taker_told = let t = T (taker_of x.cast l) (taker_within x.cast l W.cast_is its.below) in (t.0, ap (slice_get told) its.taker ∙ t.1, t.2)

    -- that an end was disabled, or enabled, is so
    disabled_so : (s : Bool) (h : Progress) (port : ℕ) → port ≡ port_number x.cast s l → IsBehind x.cast p (component_at (x.cast).layout s l) h → is_disable port h.port ≡ true → 4 ≤ port_at s (p.change l)
    disabled_so s h port e B t = (B.past s l its.below refl its.late).0 (disable_is port h.port t ∙ ap (λ (n : ℕ). Some (completions.Disable n)) e)

    enabled_so : (s : Bool) (h : Progress) (port : ℕ) → port ≡ port_number x.cast s l → IsBehind x.cast p (component_at (x.cast).layout s l) h → is_enable port h.port ≡ true → 8 ≤ port_at s (p.change l)
    enabled_so s h port e B t = (B.past s l its.below refl its.late).1 (enable_is port h.port t ∙ ap (λ (n : ℕ). Some (completions.Enable n)) e)

    flag : (old now : Bool) (P : Type 0) → (old ≡ true → P) → (now ≡ true → P) → (old || now) ≡ true → P
    flag old now P f g h = elim (or_cases old now h) [ inl t ↦ f t | inr t ↦ g t ]

    pub knows : IsToldBy (p.change l) next
    knows =
        let G = giver_told in
        let R = taker_told in
        record {
          output_disabled = λ t. flag late.output_disabled (tells_disable 0 (slice_get told late.source)) _ (K.told).output_disabled (λ u. disabled_so true G.0 0 (sym its.first) G.2 (ap (tells_disable 0) (sym G.1) ∙ u)) t;
          input_disabled = λ t. flag late.input_disabled (tells_disable late.input (slice_get told late.taker)) _ (K.told).input_disabled (λ u. disabled_so false R.0 late.input its.input R.2 (ap (tells_disable late.input) (sym R.1) ∙ u)) t;
          output_enabled = λ t. flag late.output_enabled (tells_enable 0 (slice_get told late.source)) _ (K.told).output_enabled (λ u. enabled_so true G.0 0 (sym its.first) G.2 (ap (tells_enable 0) (sym G.1) ∙ u)) t;
          input_enabled = λ t. flag late.input_enabled (tells_enable late.input (slice_get told late.taker)) _ (K.told).input_enabled (λ u. enabled_so false R.0 late.input its.input R.2 (ap (tells_enable late.input) (sym R.1) ∙ u)) t;
        }

-- ---- the conductor

pub old_hears : (x : PlayCast) (recent : ℕ) (p : Play) (w : World) (W : IsPlayWorld x recent p w) (value : ConductorValue) (views : List (Option Progress)) → length views ≡ length value.told → AreOldViews x.cast p views → IsOld x.cast recent p value → IsOld x.cast recent p (hears_all value views)
old_hears x recent p w W value views many V O =
    let C = O.conducting in
    let told : List Progress = heard_views value.told views in
    let its = knows x recent p w W told old_told in
    record {
      conducting = record {
        sinks = record { many = (C.sinks).many; each = (C.sinks).each };
        many = views_many value.told views (sym many) ∙ C.many;
        lates = lates_heard x recent p w W told its value.lates C.lates;
        sends = C.sends;
      };
      told = old_told;
      carried = carried_heard x recent p w W told its value.lates C.lates O.carried;
    }
  where
    behind : (c : ℕ) (old : Progress) (view : Option Progress) → IsBehind x.cast p c old → MatchOption view (Unit {0}) (IsBehind x.cast p c) → IsBehind x.cast p c (heard_view old view)
    behind c old None B M = B
    behind c old (Some h) B M = M

    old_told : (c : ℕ) → c < components_of x.cast → (h : Progress) × (slice_get (heard_views value.told views) (script_place x.cast c) ≡ Some h) × IsBehind x.cast p c h
    old_told c b =
        let t = O.told c b in
        let v = V.each c b in
        (heard_view t.0 v.0, view_at value.told views (script_place x.cast c) t.0 v.0 t.1 v.1, behind c t.0 v.0 t.2 v.2)
