-- Along the lines of a log: what they ask is a history of the play, and what a history asks is admitted.
use Rattle.std.proofs.Common.{◌≡◌, inl, inr, ℕ, ◌≤◌, List, [], ◌∷◌, ◌++◌, take, length, slice_get, Option, Some, None, option_map, refl, sym, ◌∙◌, ap, subst, append-nil, append_assoc, length-append, arith}
use Rattle.std.specs.Prelude.{flat_map}
use Rattle.std.proofs.lemmas.Bool.{cases_lt}
use Rattle.std.proofs.lemmas.List.{length-take, map-append}
use Rattle.std.proofs.lemmas.Option.{slice_get-map}
use Rattle.omx_types.specs.declared.handle.Handle.{Handle}
use Rattle.il_machine.specs.declared.answer.Progress.{Progress}
use Rattle.il_machine.specs.Acts.{Act, Reply}
use Rattle.il_machine.specs.Run.{Step}
use Rattle.il_machine.specs.World.{Component, World}
use Rattle.machine_laws.proofs.Finding.{either}
use Rattle.act_text.specs.declared.text.ActText.{ActText}
use Rattle.script_lang.specs.declared.play_line.PartLine.{PartLine}
use Rattle.play_build_laws.specs.Stages.{IsStage, Joining}
use Rattle.play_forms.specs.Plans.{PlanValue}
use Rattle.play_world_laws.specs.PlayWorlds.{PlayCast}
use Rattle.play_world_laws.proofs.Lists.{get_there}
use Rattle.play_plan_laws.specs.Assemblies.{IsReady, PlayFiles, assembly_of, play_cast_of}
use Rattle.play_log.specs.Entries.{Entry, step_of, steps_of}
use Rattle.play_log.specs.Lines.{LogLine}
use Rattle.play_log.specs.Naming.{NameAll, Names}
use Rattle.play_log.specs.Saying.{SaysAct}
use Rattle.play_log.specs.Scenes.{HaveOwnNames, Scene, scene_of}
use Rattle.play_result_laws.specs.Asked.{Asking, IsConducted, acts_of, askings, tuned}
use Rattle.play_history_laws.specs.Order.{Cursor, nothing_asked}
use Rattle.play_history_laws.specs.Faults.{IsAnyAllowed, IsFaultHistory}
use Rattle.play_history_laws.specs.Askings.{IsPlanHistory, asking_of, read_of}
use Rattle.play_history_laws.specs.Requests.{AreRequested, is_request, requests}
use Rattle.play_history_laws.proofs.Askings.{many}
use Rattle.play_history_laws.proofs.Conducted.{conducted_requested}
use Rattle.play_result_laws.proofs.ListFronts.{kept_at, kept_not}
use Rattle.play_history_laws.proofs.Places as places
use Rattle.play_history_laws.proofs.Requested.{history_on, unrequested}
use Rattle.play_history_laws.proofs.RequestWalk.{asked_next}
use Rattle.audit_order.specs.Steps.{IsComplete, OrderValue, nothing_asked as nothing_sent}
use Rattle.audit_forms.specs.Audited.{ComesNext}
use Rattle.audit_forms.specs.Told.{HaveNumbers, nothing_told, told_after, told_more}
use Rattle.audit_forms.proofs.Telling.{all_told}
use Rattle.audit_laws.specs.Admitted.{AdmitsFrom, AdmitsLines}
use Rattle.audit_laws.proofs.Admitting.{admitted_so}
use Rattle.audit_laws.proofs.Asking.{asked_so}
use Rattle.audit_laws.proofs.Likeness.{IsLike, like_nothing, not_sending, sent_all}
use Rattle.audit_laws.proofs.Texts.{Fits, said_so}
use Rattle.audit_laws.proofs.Told.{AreTold}

-- ---- one line more

pub told_on : (rows : List LogLine) (line : LogLine) (parts : List PartLine) (told : List Progress) → told_after (rows ++ line ∷ []) parts told ≡ told_more line.said parts (told_after rows parts told)
told_on [] line parts told = refl
told_on (row ∷ rows) line parts told = told_on rows line parts (told_more row.said parts told)

pub admits_on : (plan : PlanValue) (told : List Progress) (x : OrderValue) (rows : List LogLine) (line : LogLine) (y z : OrderValue)
    → AdmitsFrom plan told x rows y → ComesNext plan (told_after rows plan.parts told) y (line.said).act z → AdmitsFrom plan told x (rows ++ line ∷ []) z
admits_on plan told x [] line y z A C = (z, subst (λ (o : OrderValue). ComesNext plan told o (line.said).act z) A C, refl)
admits_on plan told x (row ∷ rows) line y z (m, first, rest) C = (m, first, admits_on plan (told_more row.said plan.parts told) m rows line y z rest C)

pub named_on : (s : Scene) (w mid u : World) (rows : List LogLine) (entries : List Entry) (line : LogLine) (entry : Entry)
    → NameAll s w rows entries mid → Names s mid line entry → Step mid entry.act entry.reply u → NameAll s w (rows ++ line ∷ []) (entries ++ entry ∷ []) u
named_on s w mid u [] [] line entry N now step =
    (subst (λ (y : World). Names s y line entry) N now, (u, subst (λ (y : World). Step y entry.act entry.reply u) N step, refl))
named_on s w mid u [] (other ∷ entries) line entry N now step = absurd N
named_on s w mid u (row ∷ rows) [] line entry N now step = absurd N
named_on s w mid u (row ∷ rows) (other ∷ entries) line entry (first, (next, by, rest)) now step =
    (first, (next, by, named_on s next mid u rows entries line entry rest now step))

more_many : (said : ActText) (parts : List PartLine) (told : List Progress) → length told ≡ length parts → length (told_more said parts told) ≡ length parts
more_many said [] [] e = refl
more_many said [] (p ∷ told) e = absurd (omega arith)
more_many said (part ∷ parts) [] e = absurd (omega arith)
more_many said (part ∷ parts) (p ∷ told) e = let r = more_many said parts told (omega arith) in omega arith

after_many : (rows : List LogLine) (parts : List PartLine) (told : List Progress) → length told ≡ length parts → length (told_after rows parts told) ≡ length parts
after_many [] parts told e = e
after_many (row ∷ rows) parts told e = after_many rows parts (told_more row.said parts told) (more_many row.said parts told e)

nothing_many : (parts : List PartLine) → length (nothing_told parts) ≡ length parts
nothing_many [] = refl
nothing_many (part ∷ parts) = let r = nothing_many parts in omega arith

taken_few : (n : ℕ) (xs : List (Act × Reply)) → length (take n xs) ≤ n
taken_few n xs = let e = length-take n xs in omega (arith, e)

-- ---- along the lines

module _ (plan : PlanValue) (files : PlayFiles) (handles : List Handle) (w : World) (ready : IsReady plan files) (stage : IsStage (assembly_of plan files) (Joining (length plan.joints)) handles w) (own : HaveOwnNames plan.parts) where
  abbrev c : PlayCast
  c = play_cast_of plan

  abbrev s : Scene
  s = scene_of plan.parts w

  abbrev told_at : List LogLine → List Progress
  told_at rows = told_after rows plan.parts (nothing_told plan.parts)

  -- a handle's number is the place of its component
  pub numbers : HaveNumbers s
  numbers place h e = by (slice_get w.components place) refl
    where
      by : (o : Option Component) → slice_get w.components place ≡ o → h.generation ≡ place
      by None f = (let z : None ≡ Some h = sym (slice_get-map (λ (d : Component). d.handle) w.components place ∙ ap (option_map (λ (d : Component). d.handle)) f) ∙ e in absurd cc)
      by (Some d) f =
          let z : Some d.handle ≡ Some h = sym (slice_get-map (λ (y : Component). y.handle) w.components place ∙ ap (option_map (λ (y : Component). y.handle)) f) ∙ e in
          let same : d.handle ≡ h = cc in
          sym (ap (λ (g : Handle). g.generation) same) ∙ (((stage.built).components).each place d f).number

  -- how far the lines lead
  pub record IsGone (rows : List LogLine) (entries : List Entry) (mid : World) (order : OrderValue) : Type 0 where
    pub names : NameAll s w rows entries mid
    pub cursor : Cursor
    pub goes : IsFaultHistory c (nothing_asked c.cast) w (steps_of entries) cursor mid
    pub like : IsLike plan order cursor

  pub begun : IsGone [] [] w nothing_sent
  begun = record { names = refl; cursor = nothing_asked c.cast; goes = (refl, refl); like = like_nothing plan }

  pub history : (rows : List LogLine) (entries : List Entry) (mid : World) (order : OrderValue) (G : IsGone rows entries mid order) → IsPlanHistory plan files handles w (steps_of entries) G.cursor mid
  history rows entries mid order G = record { ready = ready; stage = stage; goes = G.goes }

  told_so : (rows : List LogLine) (entries : List Entry) (mid : World) → NameAll s w rows entries mid → AreTold (length plan.parts) (told_at rows) (steps_of entries)
  told_so rows entries mid N = record {
    many_are = after_many rows plan.parts (nothing_told plan.parts) (nothing_many plan.parts);
    each = λ place b. (let part = get_there plan.parts place b in all_told s w mid rows entries place part.0 own numbers N part.1);
  }

  steps_more : (entries : List Entry) (entry : Entry) → steps_of (entries ++ entry ∷ []) ≡ steps_of entries ++ step_of entry ∷ []
  steps_more entries entry = map-append step_of entries (entry ∷ [])

  -- with that cursor
  abbrev gone_on : (rows : List LogLine) (entries : List Entry) (mid u : World) (order next : OrderValue) (line : LogLine) (entry : Entry) (G : IsGone rows entries mid order)
      → Names s mid line entry → Step mid entry.act entry.reply u → (j : Cursor) → IsAnyAllowed c G.cursor (read_of mid) entry.act j → IsLike plan next j
      → IsGone (rows ++ line ∷ []) (entries ++ entry ∷ []) u next
  gone_on rows entries mid u order next line entry G now step j A L = record {
    names = named_on s w mid u rows entries line entry G.names now step;
    cursor = j;
    goes = subst (λ (ys : List (Act × Reply)). IsFaultHistory c (nothing_asked c.cast) w ys j u) (sym (steps_more entries entry))
        (history_on c (steps_of entries) (nothing_asked c.cast) w G.cursor mid G.goes (step_of entry) j u now.meets step A);
    like = L;
  }

  says_here : (line : LogLine) (entry : Entry) (mid : World) → Names s mid line entry → SaysAct (record { parts = plan.parts; handles = handles }) (line.said).act entry.act
  says_here line entry mid now = subst (λ (hs : List Handle). SaysAct (record { parts = plan.parts; handles = hs }) (line.said).act entry.act) (stage.built).handles_are (now.says).act

  fits_here : (line : LogLine) (entry : Entry) (mid : World) → Names s mid line entry → Fits plan.parts (line.said).act entry.act
  fits_here line entry mid now = said_so s numbers (line.said).act entry.act (now.says).act

  -- ---- lines that come next are a history

  pub one_on : (rows : List LogLine) (entries : List Entry) (mid u : World) (order next : OrderValue) (line : LogLine) (entry : Entry) → IsGone rows entries mid order
      → Names s mid line entry → Step mid entry.act entry.reply u → ComesNext plan (told_at rows) order (line.said).act next → IsGone (rows ++ line ∷ []) (entries ++ entry ∷ []) u next
  one_on rows entries mid u order next line entry G now step (inl C) =
      let F = fits_here line entry mid now in
      gone_on rows entries mid u order next line entry G now step G.cursor (inl (unrequested entry.act (F.1 ∙ C.0), refl)) (subst (λ (o : OrderValue). IsLike plan o G.cursor) (sym C.1) G.like)
  one_on rows entries mid u order next line entry G now step (inr C) =
      let H = history rows entries mid order G in
      let A = asked_so plan files handles w (steps_of entries) G.cursor mid H own (told_at rows) (told_so rows entries mid G.names) order G.like (line.said).act entry.act (says_here line entry mid now) next C.1 in
      gone_on rows entries mid u order next line entry G now step A.next (inr A.asks) A.like

  all_on : (rows : List LogLine) (entries : List Entry) (mid : World) (order : OrderValue) (lines : List LogLine) (more : List Entry) (v : World) (last : OrderValue) → IsGone rows entries mid order
      → NameAll s mid lines more v → AdmitsFrom plan (told_at rows) order lines last → IsGone (rows ++ lines) (entries ++ more) v last
  all_on rows entries mid order [] [] v last G N A =
      subst (λ (ys : List LogLine). IsGone ys (entries ++ []) v last) (sym (append-nil rows))
      (subst (λ (ys : List Entry). IsGone rows ys v last) (sym (append-nil entries))
      (subst (λ (y : World). IsGone rows entries y last) (sym N) (subst (λ (o : OrderValue). IsGone rows entries mid o) (sym A) G)))
  all_on rows entries mid order [] (entry ∷ more) v last G N A = absurd N
  all_on rows entries mid order (line ∷ lines) [] v last G N A = absurd N
  all_on rows entries mid order (line ∷ lines) (entry ∷ more) v last G (now, (u, step, rest)) (next, comes, A) =
      let H = one_on rows entries mid u order next line entry G now step comes in
      let B : AdmitsFrom plan (told_at (rows ++ line ∷ [])) next lines last = subst (λ (ps : List Progress). AdmitsFrom plan ps next lines last) (sym (told_on rows line plan.parts (nothing_told plan.parts))) A in
      let all = all_on (rows ++ line ∷ []) (entries ++ entry ∷ []) u next lines more v last H rest B in
      subst (λ (ys : List LogLine). IsGone ys (entries ++ entry ∷ more) v last) (append_assoc rows (line ∷ []) lines)
      (subst (λ (ys : List Entry). IsGone ((rows ++ line ∷ []) ++ lines) ys v last) (append_assoc entries (entry ∷ []) more) all)

  pub gone : (lines : List LogLine) (entries : List Entry) (v : World) (order : OrderValue) → NameAll s w lines entries v → AdmitsLines plan lines order → IsGone lines entries v order
  gone lines entries v order N A = all_on [] [] w nothing_sent lines entries v order begun N A

  whole_sent : (order : OrderValue) (k : Cursor) → IsLike plan order k → IsComplete plan order → 1 ≤ length plan.parts → (k.phase ≡ 4) × (length plan.parts ≤ k.sent)
  whole_sent order k L (inl C) some = (L.phase ∙ C.0, sent_all plan order k L C.1)
  whole_sent order k L (inr none) some = absurd (omega (arith, none, some))

  pub requested : (lines : List LogLine) (entries : List Entry) (v : World) (order : OrderValue) → NameAll s w lines entries v → AdmitsLines plan lines order
      → (cursor : Cursor) × IsPlanHistory plan files handles w (steps_of entries) cursor v × (IsComplete plan order → 1 ≤ length plan.parts → (cursor.phase ≡ 4) × (length plan.parts ≤ cursor.sent))
  requested lines entries v order N A =
      let G = gone lines entries v order N A in
      (G.cursor, history lines entries v order G, λ complete some. whole_sent order G.cursor G.like complete some)

  -- ---- what is conducted comes next

  module _ (links : List ℕ) (steps : List (Act × Reply)) (R : AreRequested (tuned plan files) handles links [] steps) (v : World) where
    abbrev all : List Asking → List (Act × Reply)
    all list = flat_map (acts_of (tuned plan files) handles) list

    abbrev Place : List (Act × Reply) → Cursor → Type 0
    Place before k = places.IsPlace plan files handles links before k

    -- where all was requested the last state was sent to all
    sent_whole : (k : Cursor) → Place steps k → k.phase ≡ 4 → length handles ≤ k.sent
    sent_whole k P four = elim P [
      | inl F ↦ (let z = ap (λ (y : Cursor). y.phase) F.1 in absurd (omega (arith, z, four)))
      | inr Q ↦ elim Q [
        | inl S ↦
            let P2 = S.2 in
            let made : requests steps ++ [] ≡ all (askings links) = R.made in
            let e = places.ahead plan files handles links (places.front_of plan files handles links S.0) (asking_of S.0 ∷ []) (places.rest_of plan files handles links S.0) S.1 steps [] (places.list_by plan files handles links S.0 P2.low P2.high) P2.made made in
            let m = places.many_sent plan files handles links S.0 P2.low P2.high in
            let group : List (Act × Reply) = all (asking_of S.0 ∷ []) in
            let few = taken_few S.1 group in
            let z = ap length e in
            let f = length-append (take S.1 group) [] in
            let g = length-append group (all (places.rest_of plan files handles links S.0)) in
            let sent = P2.sent_is in
            omega (arith, m, few, z, f, g, sent)
        | inr C ↦ (let P2 = C.4 in let two = P2.phase_is in absurd (omega (arith, two, four)))
      ]
    ]

    -- the line comes next
    record IsComing (rows : List LogLine) (entries : List Entry) (u : World) (order : OrderValue) (line : LogLine) (entry : Entry) : Type 0 where
      next : OrderValue
      comes : ComesNext plan (told_at rows) order (line.said).act next
      gone : IsGone (rows ++ line ∷ []) (entries ++ entry ∷ []) u next
      place : Place (steps_of (entries ++ entry ∷ [])) gone.cursor

    one_coming : (rows : List LogLine) (entries : List Entry) (mid u : World) (order : OrderValue) (line : LogLine) (entry : Entry) (more : List Entry)
        → steps ≡ steps_of entries ++ step_of entry ∷ steps_of more → (G : IsGone rows entries mid order) → Place (steps_of entries) G.cursor
        → Names s mid line entry → Step mid entry.act entry.reply u → IsComing rows entries u order line entry
    one_coming rows entries mid u order line entry more e G P now step = either (is_request (step_of entry))
        (λ t.
        let before : List (Act × Reply) = steps_of entries in
        let after : List (Act × Reply) = steps_of more in
        let H = history rows entries mid order G in
        let F = fits_here line entry mid now in
        let made : requests before ++ step_of entry ∷ (requests after ++ []) ≡ all (askings links) =
        sym (append_assoc (requests before) (step_of entry ∷ requests after) [])
        ∙ (ap (λ (ys : List (Act × Reply)). ys ++ []) (sym (ap requests e ∙ kept_at is_request before after (step_of entry) t)) ∙ R.made) in
        let N = asked_next plan files handles links R.late steps before after (requests after ++ []) (step_of entry) R.timely e t made w G.cursor mid H P in
        let A = admitted_so plan files handles w before G.cursor mid H (told_at rows) (told_so rows entries mid G.names) order G.like (line.said).act entry.act F N.next N.asks in
        record {
          next = A.order;
          comes = inr (sym F.1 ∙ t, A.admits);
          gone = gone_on rows entries mid u order A.order line entry G now step N.next (inr N.asks) A.like;
          place = subst (λ (ys : List (Act × Reply)). Place ys N.next) (sym (steps_more entries entry)) N.place;
        })
        (λ f.
        let before : List (Act × Reply) = steps_of entries in
        let F = fits_here line entry mid now in
        let same = kept_not is_request before (step_of entry) f in
        record {
          next = order;
          comes = inl (sym F.1 ∙ f, refl);
          gone = gone_on rows entries mid u order order line entry G now step G.cursor (inl (unrequested entry.act f, refl)) G.like;
          place = subst (λ (ys : List (Act × Reply)). Place ys G.cursor) (sym (steps_more entries entry))
              (places.stays plan files handles links before (before ++ step_of entry ∷ []) G.cursor same P);
        })

    -- the lines that are left come next, and then all was asked
    abbrev Coming : List LogLine → OrderValue → List LogLine → Type 0
    Coming rows order lines = (last : OrderValue) × AdmitsFrom plan (told_at rows) order lines last × IsComplete plan last

    coming : (rows : List LogLine) (entries : List Entry) (mid : World) (order : OrderValue) (lines : List LogLine) (more : List Entry) → steps ≡ steps_of entries ++ steps_of more
        → (G : IsGone rows entries mid order) → Place (steps_of entries) G.cursor → NameAll s mid lines more v → Coming rows order lines
    coming rows entries mid order [] [] e G P N = (
      order,
      refl,
      elim (cases_lt 0 (length plan.parts)) [
        | inl some ↦
            let k : Cursor = G.cursor in
            let m = many plan files handles w (steps_of entries) k mid (history rows entries mid order G) in
            let Q : Place steps k = subst (λ (ys : List (Act × Reply)). Place ys k) (sym (e ∙ append-nil (steps_of entries))) P in
            let four = places.all_made plan files handles links (omega (arith, m, some)) steps k Q R.made in
            let sent = sent_whole k Q four in
            inl (sym (G.like).phase ∙ four, not_sending plan order k G.like (omega (arith, m, sent)))
        | inr none ↦ inr (omega (arith, none))
      ],
    )
    coming rows entries mid order [] (entry ∷ more) e G P N = absurd N
    coming rows entries mid order (line ∷ lines) [] e G P N = absurd N
    coming rows entries mid order (line ∷ lines) (entry ∷ more) e G P (now, (u, step, rest)) =
        let S = one_coming rows entries mid u order line entry more e G P now step in
        let cut : steps ≡ steps_of (entries ++ entry ∷ []) ++ steps_of more =
        e ∙ (sym (append_assoc (steps_of entries) (step_of entry ∷ []) (steps_of more)) ∙ ap (λ (ys : List (Act × Reply)). ys ++ steps_of more) (sym (steps_more entries entry))) in
        let T = coming (rows ++ line ∷ []) (entries ++ entry ∷ []) u S.next lines more cut S.gone S.place rest in
        (T.0, (S.next, S.comes, subst (λ (ps : List Progress). AdmitsFrom plan ps S.next lines T.0) (told_on rows line plan.parts (nothing_told plan.parts)) T.1), T.2)

  pub admitted : (lines : List LogLine) (entries : List Entry) (v : World) → NameAll s w lines entries v → IsConducted (tuned plan files) handles (steps_of entries)
      → (order : OrderValue) × AdmitsLines plan lines order × IsComplete plan order
  admitted lines entries v N C =
      let R = conducted_requested (tuned plan files) handles (steps_of entries) C in
      coming C.links (steps_of entries) R v [] [] w nothing_sent lines entries refl (record { names = refl; cursor = nothing_asked c.cast; goes = (refl, refl); like = like_nothing plan }) (inl (refl, refl)) N
