-- A round of looks, one after the other while others act: what each shows stays so, and the conductor that hears it all knows no more than is so.
use Rattle.std.proofs.Common.{◌≡◌, ◌⊎◌, inl, inr, ℕ, zero, suc, ◌+◌, ◌<◌, ◌≤◌, true, List, [], ◌∷◌, length, slice_get, Option, Some, None, is_some, Ok, refl, sym, ◌∙◌, ap, subst, arith}
use Rattle.std.specs.Prelude.{MatchOption}
use Rattle.std.proofs.lemmas.Bool.{cases_eq}
use Rattle.std.proofs.lemmas.Option.{slice_get_within}
use Rattle.omx_types.specs.declared.error.OmxError.{OmxError}
use Rattle.omx_types.specs.declared.handle.Handle.{Handle}
use Rattle.il_machine.specs.declared.answer.Progress.{Progress}
use Rattle.il_machine.specs.Acts.{Act as MachineAct, Reply}
use Rattle.il_machine.specs.Acts as acts
use Rattle.il_machine.specs.Components.{progress_answer}
use Rattle.il_machine.specs.Run.{Step}
use Rattle.il_machine.specs.World.{Stream, World, place_of}
use Rattle.conductor.specs.Hearing.{ConductorValue, heard, heard_view, heard_views}
use Rattle.play_build_laws.specs.Stages.{IsStage, Joining}
use Rattle.play_forms.specs.Plans.{PlanValue}
use Rattle.play_model.specs.Play.{Play}
use Rattle.play_world_laws.specs.Cast.{components_of, script_place}
use Rattle.play_world_laws.specs.PlayWorlds.{IsPlayWorld, PlayCast}
use Rattle.play_world_laws.proofs.Lists.{get_there}
use Rattle.play_plan_laws.specs.Assemblies.{IsReady, PlayFiles, assembly_of, play_cast_of}
use Rattle.play_plan_laws.proofs.Conducting.{view_at}
use Rattle.read_world_laws.specs.Inside.{inside}
use Rattle.read_world_laws.specs.Mended.{mend}
use Rattle.play_history_laws.specs.Histories.{IsUnasked}
use Rattle.play_history_laws.specs.Order.{Cursor, nothing_asked}
use Rattle.play_history_laws.specs.Faults.{IsFaultHistory, IsFaulty}
use Rattle.play_history_laws.specs.Behind.{IsBehind, IsOld}
use Rattle.play_history_laws.proofs.Behind.{behind_on}
use Rattle.play_history_laws.proofs.Hearing.{old_hears}
use Rattle.play_history_laws.specs.Askings.{IsPlanHistory}
use Rattle.play_history_laws.proofs.Askings.{named, place_read}
use Rattle.play_result_laws.specs.Rounds.{looks}
use Rattle.play_history_laws.proofs.Knowing.{HasFailed, Holds, failed_on, joined_old, old_on}
use Rattle.play_history_laws.proofs.Looking.{IsBroken, looks_behind, shown}
use Rattle.play_history_laws.proofs.Sending.{place_first, place_on}
use Rattle.play_history_laws.proofs.PassWalk.{Holding, IsOn, KeepsOthers, KeepsOwn}

-- what is left of the looks once the first is made
record IsCut (hs : List Handle) (vs : List (Option Progress)) (step : MachineAct × Reply) (todo : List (MachineAct × Reply)) : Type 0 where
  handle : Handle
  handles : List Handle
  view : Option Progress
  views : List (Option Progress)
  its_handles : hs ≡ handle ∷ handles
  its_views : vs ≡ view ∷ views
  is : step ≡ (acts.Progress handle, acts.Progressed (Ok view))
  rest : todo ≡ looks handles views

cut : (hs : List Handle) (vs : List (Option Progress)) (step : MachineAct × Reply) (todo : List (MachineAct × Reply)) → step ∷ todo ≡ looks hs vs → IsCut hs vs step todo
cut [] vs step todo e = absurd cc
cut (h ∷ hs) [] step todo e = absurd cc
cut (h ∷ hs) (view ∷ vs) step todo e =
    let a : step ≡ (acts.Progress h, acts.Progressed (Ok view)) = cc in
    let b : todo ≡ looks hs vs = cc in
    record { handle = h; handles = hs; view = view; views = vs; its_handles = refl; its_views = refl; is = a; rest = b }

none_left : (hs : List Handle) (vs : List (Option Progress)) → length vs ≡ length hs → [] ≡ looks hs vs → length hs ≡ 0
none_left [] vs m e = refl
none_left (h ∷ hs) [] m e = absurd (omega (arith, m))
none_left (h ∷ hs) (view ∷ vs) m e = absurd cc

module _ (plan : PlanValue) (files : PlayFiles) (handles : List Handle) (w : World) (ready : IsReady plan files) (stage : IsStage (assembly_of plan files) (Joining (length plan.joints)) handles w)
    (same_many : length handles ≡ length plan.parts) (value : ConductorValue) (views : List (Option Progress)) (many : length views ≡ length handles) where
  abbrev x : PlayCast
  x = play_cast_of plan

  -- what the look at the place showed is so, or it showed an error, which stays
  abbrev IsSeen : ℕ → Option Progress → Play → World → Type 0
  IsSeen place None p v = Unit {0}
  IsSeen place (Some h) p v = ((c : ℕ) → c < components_of x.cast → script_place x.cast c ≡ place → IsBehind x.cast p c h) ⊎ ((is_some h.error ≡ true) × IsBroken place v)

  -- where it was told an error before, it is told it again
  abbrev IsToldAgain : ℕ → ℕ → Type 0
  IsToldAgain place i = place < i → (view : Option Progress) → slice_get views place ≡ Some view → MatchOption view (Unit {0}) (λ h. is_some h.error ≡ true)

  pub record Looks (todo : List (MachineAct × Reply)) (k : Cursor) (r : ℕ) (p : Play) (v : World) : Type 0 where
    place : ℕ
    hs : List Handle
    vs : List (Option Progress)
    is : todo ≡ looks hs vs
    many_left : length vs ≡ length hs
    at : (i : ℕ) (h : Handle) → slice_get hs i ≡ Some h → slice_get handles (place + i) ≡ Some h
    shows : (i : ℕ) (view : Option Progress) → slice_get vs i ≡ Some view → slice_get views (place + i) ≡ Some view
    all : place + length hs ≡ length handles
    sent : length plan.parts ≤ k.sent
    phase : k.phase ≡ value.sends
    seen : (i : ℕ) (view : Option Progress) → i < place → slice_get views i ≡ Some view → IsSeen i view p v
    knows : IsOld x.cast r p value ⊎ ((T : HasFailed plan value p v) × IsToldAgain T.place place)

  abbrev pub LooksOn : Holding
  LooksOn todo k r p v = Looks todo k r p v

  seen_on : (k : Cursor) (r : ℕ) (p : Play) (v : World) (s : ℕ) (q : Play) (u : World) → IsOn x k r p v k s q u → (i : ℕ) (view : Option Progress) → IsSeen i view p v → IsSeen i view q u
  seen_on k r p v s q u O i None S = S
  seen_on k r p v s q u O i (Some h) S = elim S [
    | inl B ↦ inl (λ c b e. behind_on x.cast p q c h ((O.goes).later refl) (B c b e))
    | inr E ↦ inr (E.0, O.broken i E.1)
  ]

  knows_on : (place : ℕ) (k : Cursor) (r : ℕ) (p : Play) (v : World) (s : ℕ) (q : Play) (u : World) → IsOn x k r p v k s q u
      → IsOld x.cast r p value ⊎ ((T : HasFailed plan value p v) × IsToldAgain T.place place) → IsOld x.cast s q value ⊎ ((T : HasFailed plan value q u) × IsToldAgain T.place place)
  knows_on place k r p v s q u O K = elim K [
    | inl V ↦ inl (old_on x k r p s q value O.goes V)
    | inr T ↦ inr (failed_on plan value k r p v s q u O T.0, T.1)
  ]

  pub looks_others : KeepsOthers x (nothing_asked x.cast) w LooksOn
  looks_others todo k r p v s q u O L = record {
    place = L.place;
    hs = L.hs;
    vs = L.vs;
    is = L.is;
    many_left = L.many_left;
    at = L.at;
    shows = L.shows;
    all = L.all;
    sent = L.sent;
    phase = L.phase;
    seen = λ i view b e. seen_on k r p v s q u O i view (L.seen i view b e);
    knows = knows_on L.place k r p v s q u O L.knows;
  }

  -- what the look shows in the world in which it is made
  module _ (place : ℕ) (handle : Handle) (before : List (MachineAct × Reply)) (k : Cursor) (r : ℕ) (p : Play) (ss : List Stream) (v : World) (H : IsFaultHistory x (nothing_asked x.cast) w before k v) (D : IsFaulty x k r p ss v)
      (there : slice_get handles place ≡ Some handle) where
    names_place : place_of handle v.components ≡ Some place
    names_place =
        let G : IsPlanHistory plan files handles w before k v = record { ready = ready; stage = stage; goes = H } in
        sym (place_read handle v) ∙ named plan files handles w before k v G place handle there

    abbrev W : IsPlayWorld x r p (inside (mend ss v))
    W = ((D.taken).played).play

    seen_now : (view : Option Progress) → progress_answer handle v ≡ Ok view → IsSeen place view p v
    seen_now None e = tt
    seen_now (Some h) e = by h.error refl
      where
        component : (c : ℕ) × (c < components_of x.cast) × (script_place x.cast c ≡ place)
        component = (W.cast_is).each place (let b = slice_get_within handles place handle there in omega (arith, b, same_many))

        by : (o : Option OmxError) → h.error ≡ o → IsSeen place (Some h) p v
        by None f = inl (λ c b g. looks_behind x k r p ss v D c handle h b (names_place ∙ ap Some (sym g)) e f)
        by (Some error) f =
            let c = component in
            let is = shown x k r p ss v D c.0 handle h c.1 (names_place ∙ ap Some (sym c.2)) e in
            let told : is_some h.error ≡ true = ap (λ (o : Option OmxError). is_some o) f in
            inr (told, subst (λ (n : ℕ). IsBroken n v) c.2 (ap (λ (y : Progress). is_some y.error) (sym is) ∙ told))

    -- of a component whose client was given an error
    told_again : IsBroken place v → (view : Option Progress) → progress_answer handle v ≡ Ok view → MatchOption view (Unit {0}) (λ h. is_some h.error ≡ true)
    told_again B None e = tt
    told_again B (Some h) e =
        let c = (W.cast_is).each place (let b = slice_get_within handles place handle there in omega (arith, b, same_many)) in
        let is = shown x k r p ss v D c.0 handle h c.1 (names_place ∙ ap Some (sym c.2)) e in
        ap (λ (y : Progress). is_some y.error) is ∙ subst (λ (n : ℕ). IsBroken n v) (sym c.2) B

  answer_is : (v u : World) (handle : Handle) (view : Option Progress) → Step v (acts.Progress handle) (acts.Progressed (Ok view)) u → progress_answer handle v ≡ Ok view
  answer_is v u handle view s = sym s.0

  pub looks_own : KeepsOwn x (nothing_asked x.cast) w LooksOn
  looks_own step todo before k r p ss v u H D m s L =
      let c = cut L.hs L.vs step todo L.is in
      let here : slice_get handles L.place ≡ Some c.handle = place_first handles L.place c.handle (L.at 0 c.handle (ap (λ (ys : List Handle). slice_get ys 0) c.its_handles)) in
      let view_here : slice_get views L.place ≡ Some c.view = place_first views L.place c.view (L.shows 0 c.view (ap (λ (ys : List (Option Progress)). slice_get ys 0) c.its_views)) in
      let step_is : Step v (acts.Progress c.handle) (acts.Progressed (Ok c.view)) u = subst (λ (y : MachineAct × Reply). Step v y.0 y.1 u) c.is s in
      let answer = answer_is v u c.handle c.view step_is in
      let now = seen_now L.place c.handle before k r p ss v H D here c.view answer in
      let free : IsUnasked step.0 = subst (λ (y : MachineAct × Reply). IsUnasked y.0) (sym c.is) tt in
      let sizes = ap length c.its_handles in
      let view_sizes = ap length c.its_views in
      let left = L.many_left in
      let all = L.all in (
        k,
        inl (inl free, refl),
        λ t q ts E O. record {
          place = L.place + 1;
          hs = c.handles;
          vs = c.views;
          is = c.rest;
          many_left = omega (arith, sizes, view_sizes, left);
          at = λ i h e. place_on handles L.place i h (L.at (suc i) h (ap (λ (ys : List Handle). slice_get ys (suc i)) c.its_handles ∙ e));
          shows = λ i view e. place_on views L.place i view (L.shows (suc i) view (ap (λ (ys : List (Option Progress)). slice_get ys (suc i)) c.its_views ∙ e));
          all = omega (arith, sizes, all);
          sent = L.sent;
          phase = L.phase;
          seen = λ i view b e. seen_on k r p v t q u O i view (elim (cases_eq i L.place) [
            | inl f ↦
                let both : Some view ≡ Some c.view = sym e ∙ (ap (slice_get views) f ∙ view_here) in
                let same : view ≡ c.view = cc in
                subst (λ (n : ℕ). IsSeen n view p v) (sym f) (subst (λ (y : Option Progress). IsSeen L.place y p v) (sym same) now)
            | inr n ↦ L.seen i view (omega (arith, b, n)) e
          ]);
          knows = knows_on (L.place + 1) k r p v t q u O (elim L.knows [
            | inl V ↦ inl V
            | inr T ↦ inr (
              T.0,
              λ b view e. elim (cases_eq (T.0).place L.place) [
                | inl f ↦
                    let both : Some view ≡ Some c.view = sym e ∙ (ap (slice_get views) f ∙ view_here) in
                    let same : view ≡ c.view = cc in
                    subst (λ (y : Option Progress). MatchOption y (Unit {0}) (λ h. is_some h.error ≡ true)) (sym same)
                    (told_again L.place c.handle before k r p ss v H D here (subst (λ (n : ℕ). IsBroken n v) f (T.0).broken) c.view answer)
                | inr n ↦ T.1 (omega (arith, b, n)) view e
              ],
            )
          ]);
        },
      )

  pub looks_first : (k : Cursor) (r : ℕ) (p : Play) (v : World) → Holds plan value k r p v → LooksOn (looks handles views) k r p v
  looks_first k r p v H = record {
    place = 0;
    hs = handles;
    vs = views;
    is = refl;
    many_left = many;
    at = λ i h e. let s : 0 + i ≡ i = omega arith in ap (slice_get handles) s ∙ e;
    shows = λ i view e. let s : 0 + i ≡ i = omega arith in ap (slice_get views) s ∙ e;
    all = omega arith;
    sent = H.sent;
    phase = H.phase;
    seen = λ i view b e. absurd (omega (arith, b));
    knows = elim H.knows [ inl V ↦ inl V | inr T ↦ inr (T, λ b view e. absurd (omega (arith, b))) ];
  }

  -- ---- the views are heard

  abbrev AllBehind : ℕ → Play → Type 0
  AllBehind n p = (i : ℕ) (view : Option Progress) → i < n → slice_get views i ≡ Some view → (c : ℕ) → c < components_of x.cast → script_place x.cast c ≡ i → MatchOption view (Unit {0}) (IsBehind x.cast p c)

  record ShowsError (v : World) : Type 0 where
    place : ℕ
    progress : Progress
    there : slice_get views place ≡ Some (Some progress)
    error : is_some progress.error ≡ true
    broken : IsBroken place v

  all_or_error : (n : ℕ) (p : Play) (v : World) → n ≤ length views → ((i : ℕ) (view : Option Progress) → i < n → slice_get views i ≡ Some view → IsSeen i view p v) → AllBehind n p ⊎ ShowsError v
  all_or_error zero p v b S = inl (λ i view l e. absurd (omega (arith, l)))
  all_or_error (suc n) p v b S = elim (all_or_error n p v (omega (arith, b)) (λ i view l e. S i view (omega (arith, l)) e)) [
    | inr E ↦ inr E
    | inl A ↦
        let t = get_there views n (omega (arith, b)) in
        by t.0 t.1 (S n t.0 (omega arith) t.1) A
  ]
    where
      more : (view : Option Progress) → slice_get views n ≡ Some view → ((c : ℕ) → c < components_of x.cast → script_place x.cast c ≡ n → MatchOption view (Unit {0}) (IsBehind x.cast p c)) → AllBehind n p → AllBehind (suc n) p
      more view f B A i other l e c d g = elim (cases_eq i n) [
        | inl is ↦
            let both : Some other ≡ Some view = sym e ∙ (ap (slice_get views) is ∙ f) in
            let same : other ≡ view = cc in
            subst (λ (y : Option Progress). MatchOption y (Unit {0}) (IsBehind x.cast p c)) (sym same) (B c d (g ∙ is))
        | inr m ↦ A i other (omega (arith, l, m)) e c d g
      ]

      by : (view : Option Progress) → slice_get views n ≡ Some view → IsSeen n view p v → AllBehind n p → AllBehind (suc n) p ⊎ ShowsError v
      by None f T A = inl (more None f (λ c d g. tt) A)
      by (Some h) f T A = elim T [
        | inl B ↦ inl (more (Some h) f (λ c d g. B c d g) A)
        | inr E ↦ inr (record { place = n; progress = h; there = f; error = E.0; broken = E.1 })
      ]

  heard_at : (place : ℕ) (old : Progress) (view : Option Progress) → slice_get value.told place ≡ Some old → slice_get views place ≡ Some view → slice_get (heard_views value.told views) place ≡ Some (heard_view old view)
  heard_at place old view e f = view_at value.told views place old view e f

  error_heard : (old : Progress) (view : Option Progress) → is_some old.error ≡ true → MatchOption view (Unit {0}) (λ h. is_some h.error ≡ true) → is_some (heard_view old view).error ≡ true
  error_heard old None t M = t
  error_heard old (Some h) t M = M

  pub looks_last : (k : Cursor) (r : ℕ) (p : Play) (ss : List Stream) (v : World) → IsFaulty x k r p ss v → LooksOn [] k r p v → Holds plan (heard value views) k r p v
  looks_last k r p ss v D L =
      let z = none_left L.hs L.vs L.many_left L.is in
      let all = L.all in
      let place : L.place ≡ length views = omega (arith, z, all, many) in
      record {
        sent = L.sent;
        phase = L.phase;
        knows = elim L.knows [
          | inl V ↦ elim (all_or_error (length views) p v (omega arith) (λ i view b e. L.seen i view (omega (arith, b, place)) e)) [
            | inl A ↦ inl (hears V A)
            | inr E ↦ inr (fails V E)
          ]
          | inr T ↦
              let told = T.0 in
              let b = told.below in
              let view = get_there views told.place (omega (arith, b, many, same_many)) in
              inr (record {
                place = told.place;
                below = b;
                progress = heard_view told.progress view.0;
                there = heard_at told.place told.progress view.0 told.there view.1;
                error = error_heard told.progress view.0 told.error (T.1 (omega (arith, b, place, many, same_many)) view.0 view.1);
                broken = told.broken;
                tunnels = told.tunnels;
              })
        ];
      }
    where
      W : IsPlayWorld x r p (inside (mend ss v))
      W = ((D.taken).played).play

      hears : IsOld x.cast r p value → AllBehind (length views) p → IsOld x.cast r p (heard value views)
      hears V A =
          let told = (V.conducting).many in
          old_hears x r p (inside (mend ss v)) W value views (omega (arith, told, many, same_many)) (record {
            each = λ c b.
                let l = (W.cast_is).placed c b in
                let view = get_there views (script_place x.cast c) (omega (arith, l, many, same_many)) in
                (view.0, view.1, A (script_place x.cast c) view.0 (omega (arith, l, many, same_many)) view.1 c b refl);
          }) V

      fails : IsOld x.cast r p value → ShowsError v → HasFailed plan (heard value views) p v
      fails V E =
          let b = slice_get_within views E.place (Some E.progress) E.there in
          let told = (V.conducting).many in
          let old = get_there value.told E.place (omega (arith, b, told, many, same_many)) in
          record {
            place = E.place;
            below = omega (arith, b, many, same_many);
            progress = E.progress;
            there = heard_at E.place old.0 (Some E.progress) old.1 E.there;
            error = E.error;
            broken = E.broken;
            tunnels = joined_old x r p value V;
          }
