-- What a play's lines name from one opening on they name from another one on, and the worlds keep one bare form.
use Rattle.std.proofs.Common.{◌≡◌, inl, inr, ℕ, List, [], ◌∷◌, ◌++◌, length, Some, refl, sym, ◌∙◌, subst, append-nil, append_assoc}
use Rattle.omx_types.specs.declared.handle.Handle.{Handle}
use Rattle.il_machine.specs.declared.answer.Progress.{Progress}
use Rattle.il_machine.specs.Acts.{Act, Reply}
use Rattle.il_machine.specs.Acts as acts
use Rattle.il_machine.specs.Run.{Meets, Step}
use Rattle.il_machine.specs.Sound.{Sound}
use Rattle.il_machine.specs.World.{World, is_at, place_of}
use Rattle.il_machine.proofs.Places.{is_first_place, passes_at as standing_at}
use Rattle.history_laws.proofs.Naming.{handle_is}
use Rattle.bare_run_laws.specs.Bare.{IsKnown, bare}
use Rattle.bare_run_laws.specs.Runs.{bare_act}
use Rattle.bare_run_laws.proofs.Meeting.{meets_back, meets_bare, sound_apart}
use Rattle.bare_run_laws.proofs.Runs.{one_back, one_goes}
use Rattle.play_build_laws.specs.Stages.{IsStage, Joining}
use Rattle.play_forms.specs.Plans.{PlanValue}
use Rattle.play_plan_laws.specs.Assemblies.{IsReady, PlayFiles, assembly_of}
use Rattle.play_log.specs.Entries.{Entry, steps_of}
use Rattle.play_log.specs.Lines.{LogLine}
use Rattle.play_log.specs.Naming.{NameAll, Names}
use Rattle.play_log.specs.Saying.{SaysAct, SaysReply}
use Rattle.play_log.specs.Scenes.{HaveOwnNames, scene_of}
use Rattle.play_history_laws.specs.Order.{Cursor}
use Rattle.play_history_laws.specs.Askings.{IsPlanHistory}
use Rattle.play_history_laws.proofs.Askings.{come, many, named_now}
use Rattle.play_history_laws.proofs.PlanUnrefused.{not_refused}
use Rattle.audit_order.specs.Steps.{OrderValue, nothing_asked as nothing_sent}
use Rattle.audit_forms.specs.Audited.{ComesNext}
use Rattle.audit_forms.specs.Told.{HaveNumbers, nothing_told, told_after}
use Rattle.audit_laws.specs.Admitted.{AdmitsFrom, AdmitsLines}
use Rattle.audit_laws.proofs.Playing.{AreBeside, can_say, next_plays}
use Rattle.audit_laws.proofs.Unmarked.{AreUnmarked, met_unmarked}
use Rattle.audit_laws.proofs.Walking.{IsGone, begun, history, numbers, one_on, told_on}

known_of : (w : World) → Sound w → (h : Handle) (place : ℕ) → place_of h w.components ≡ Some place → IsKnown h w
known_of w S h place e =
    let f = standing_at (is_at h) w.components place (sym (is_first_place (is_at h) w.components) ∙ e) in
    subst (λ (g : Handle). IsKnown g w) (handle_is (f.0).handle h f.2) (sound_apart w S place f.0 f.1)

-- ---- in a world to which a history leads

module _ (plan : PlanValue) (files : PlayFiles) (handles : List Handle) (w : World) (steps : List (Act × Reply)) where
  pub sound_there : (cursor : Cursor) (v : World) → IsPlanHistory plan files handles w steps cursor v → Sound v
  sound_there cursor v H = ((come plan files handles w steps cursor v H).faulty).sound

  -- no header of it has a mark
  pub unmarked_there : (cursor : Cursor) (v : World) → IsPlanHistory plan files handles w steps cursor v → AreUnmarked v.headers
  unmarked_there cursor v H n r e =
      let W = ((((come plan files handles w steps cursor v H).faulty).taken).played).play in
      ((W.headers n r e).whole).unmarked

module _ (plan : PlanValue) (files : PlayFiles) (ready : IsReady plan files) (own : HaveOwnNames plan.parts)
    (handles : List Handle) (w : World) (stage : IsStage (assembly_of plan files) (Joining (length plan.joints)) handles w)
    (others : List Handle) (z : World) (opens : IsStage (assembly_of plan files) (Joining (length plan.joints)) others z) where
  abbrev told_at : List LogLine → List Progress
  told_at rows = told_after rows plan.parts (nothing_told plan.parts)

  -- both runs have come so far
  pub record AreBoth (rows : List LogLine) (entries those : List Entry) (mid now : World) (order : OrderValue) : Type 0 where
    pub one : IsGone plan files handles w ready stage own rows entries mid order
    pub other : IsGone plan files others z ready opens own rows those now order
    pub same : bare mid ≡ bare now

  beside : (rows : List LogLine) (entries those : List Entry) (mid now : World) (order : OrderValue) → AreBoth rows entries those mid now order → AreBeside plan.parts handles others mid now
  beside rows entries those mid now order B =
      let H = history plan files handles w ready stage own rows entries mid order B.one in
      let K = history plan files others z ready opens own rows those now order B.other in
      let k = (B.one).cursor in
      let j = (B.other).cursor in
      record {
        many = many plan files others z (steps_of those) j now K ∙ sym (many plan files handles w (steps_of entries) k mid H);
        numbers = subst (λ (hs : List Handle). HaveNumbers (record { parts = plan.parts; handles = hs })) (stage.built).handles_are (numbers plan files handles w ready stage own);
        numbered = subst (λ (hs : List Handle). HaveNumbers (record { parts = plan.parts; handles = hs })) (opens.built).handles_are (numbers plan files others z ready opens own);
        known = λ place h e. known_of mid (sound_there plan files handles w (steps_of entries) k mid H) h place (named_now plan files handles w (steps_of entries) k mid H place h e);
        other_known = λ place h e. known_of now (sound_there plan files others z (steps_of those) j now K) h place (named_now plan files others z (steps_of those) j now K place h e);
        unrefused = λ a r u h at which step. elim which [
          | inl e ↦ not_refused plan files handles w (steps_of entries) k mid H (acts.RunCommand h) r u at refl (subst (λ (y : Act). Step mid y r u) e step)
          | inr e ↦ not_refused plan files handles w (steps_of entries) k mid H (acts.TakeNote h) r u at refl (subst (λ (y : Act). Step mid y r u) e step)
        ];
        unmarked = λ done meets. met_unmarked mid done (unmarked_there plan files handles w (steps_of entries) k mid H) meets;
      }

  -- the other run has made the step, too
  pub record HasFollowed (rows : List LogLine) (entries those : List Entry) (now u : World) (next : OrderValue) (line : LogLine) (entry : Entry) : Type 0 where
    pub its : Entry
    pub after : World
    pub names : Names (scene_of plan.parts z) now line its
    pub step : Step now its.act its.reply after
    pub both : AreBoth (rows ++ line ∷ []) (entries ++ entry ∷ []) (those ++ its ∷ []) u after next

  pub one_follows : (rows : List LogLine) (entries those : List Entry) (mid now u : World) (order next : OrderValue) (line : LogLine) (entry : Entry) → AreBoth rows entries those mid now order
      → Names (scene_of plan.parts w) mid line entry → Step mid entry.act entry.reply u → ComesNext plan (told_at rows) order (line.said).act next → HasFollowed rows entries those now u next line entry
  one_follows rows entries those mid now u order next line entry B N step comes =
      let r : Reply = entry.reply in
      let says : SaysAct (record { parts = plan.parts; handles = handles }) (line.said).act entry.act =
      subst (λ (hs : List Handle). SaysAct (record { parts = plan.parts; handles = hs }) (line.said).act entry.act) (stage.built).handles_are (N.says).act in
      let reply : SaysReply (record { parts = plan.parts; handles = handles }) (line.said).reply entry.act r =
      subst (λ (hs : List Handle). SaysReply (record { parts = plan.parts; handles = hs }) (line.said).reply entry.act r) (stage.built).handles_are (N.says).reply in
      let C = can_say plan.parts handles others mid now (beside rows entries those mid now order B) (line.said).act entry.act (line.said).reply r u
      (next_plays plan (told_at rows) order (line.said).act next comes) says step reply N.meets N.unbroken in
      let A = C.are in
      let S = sound_there plan files handles w (steps_of entries) (B.one).cursor mid (history plan files handles w ready stage own rows entries mid order B.one) in
      let T = sound_there plan files others z (steps_of those) (B.other).cursor now (history plan files others z ready opens own rows those now order B.other) in
      let met : Meets (bare now) (bare_act C.act) = subst (λ (y : World). Meets y (bare_act C.act)) B.same (subst (Meets (bare mid)) (sym A.same) (meets_bare mid entry.act r A.plays N.meets)) in
      let made : Step (bare now) (bare_act C.act) r (bare u) = subst (λ (y : World). Step y (bare_act C.act) r (bare u)) B.same (subst (λ (b : Act). Step (bare mid) b r (bare u)) (sym A.same) (one_goes mid entry.act r u S A.plays step)) in
      let R = one_back now C.act r (bare u) T A.other made in
      let its : Entry = record { pass = entry.pass; act = C.act; reply = r } in
      let named : Names (scene_of plan.parts z) now line its = record {
        says = record {
          pass = (N.says).pass;
          act = subst (λ (hs : List Handle). SaysAct (record { parts = plan.parts; handles = hs }) (line.said).act C.act) (sym (opens.built).handles_are) C.says;
          reply = subst (λ (hs : List Handle). SaysReply (record { parts = plan.parts; handles = hs }) (line.said).reply C.act r) (sym (opens.built).handles_are) A.reply;
        };
        meets = meets_back now C.act r A.other met;
        unbroken = A.unbroken;
      } in
      record {
        its = its;
        after = R.v;
        names = named;
        step = R.does;
        both = record {
          one = one_on plan files handles w ready stage own rows entries mid u order next line entry B.one N step comes;
          other = one_on plan files others z ready opens own rows those now R.v order next line its B.other named R.does comes;
          same = sym R.is;
        };
      }

  -- ---- all lines

  record AllFollow (rows : List LogLine) (entries : List Entry) (v : World) (order : OrderValue) : Type 0 where
    those : List Entry
    after : World
    both : AreBoth rows entries those v after order

  all_follow : (rows : List LogLine) (entries those : List Entry) (mid now : World) (order : OrderValue) (lines : List LogLine) (more : List Entry) (v : World) (last : OrderValue)
      → AreBoth rows entries those mid now order → NameAll (scene_of plan.parts w) mid lines more v → AdmitsFrom plan (told_at rows) order lines last → AllFollow (rows ++ lines) (entries ++ more) v last
  all_follow rows entries those mid now order [] [] v last B N A =
      subst (λ (ys : List LogLine). AllFollow ys (entries ++ []) v last) (sym (append-nil rows))
      (subst (λ (ys : List Entry). AllFollow rows ys v last) (sym (append-nil entries))
      (subst (λ (y : World). AllFollow rows entries y last) (sym N) (subst (λ (o : OrderValue). AllFollow rows entries mid o) (sym A) (record { those = those; after = now; both = B }))))
  all_follow rows entries those mid now order [] (entry ∷ more) v last B N A = absurd N
  all_follow rows entries those mid now order (line ∷ lines) [] v last B N A = absurd N
  all_follow rows entries those mid now order (line ∷ lines) (entry ∷ more) v last B (first, (u, step, rest)) (next, comes, A) =
      let F = one_follows rows entries those mid now u order next line entry B first step comes in
      let C : AdmitsFrom plan (told_at (rows ++ line ∷ [])) next lines last = subst (λ (ps : List Progress). AdmitsFrom plan ps next lines last) (sym (told_on rows line plan.parts (nothing_told plan.parts))) A in
      let all = all_follow (rows ++ line ∷ []) (entries ++ entry ∷ []) (those ++ F.its ∷ []) u F.after next lines more v last F.both rest C in
      subst (λ (ys : List LogLine). AllFollow ys (entries ++ entry ∷ more) v last) (append_assoc rows (line ∷ []) lines)
      (subst (λ (ys : List Entry). AllFollow ((rows ++ line ∷ []) ++ lines) ys v last) (append_assoc entries (entry ∷ []) more) all)

  pub begun_both : bare w ≡ bare z → AreBoth [] [] [] w z nothing_sent
  begun_both e = record { one = begun plan files handles w ready stage own; other = begun plan files others z ready opens own; same = e }

  pub follows : bare w ≡ bare z → (lines : List LogLine) (entries : List Entry) (v : World) (order : OrderValue) → NameAll (scene_of plan.parts w) w lines entries v → AdmitsLines plan lines order
      → (those : List Entry) × (after : World) × NameAll (scene_of plan.parts z) z lines those after × (bare after ≡ bare v)
  follows e lines entries v order N A =
      let F = all_follow [] [] [] w z nothing_sent lines entries v order (begun_both e) N A in
      (F.those, F.after, ((F.both).other).names, sym (F.both).same)
