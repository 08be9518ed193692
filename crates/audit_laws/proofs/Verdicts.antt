-- A told log has one verdict, from whichever opening of a plan it is replayed.
use Rattle.std.proofs.Common.{◌≡◌, inl, inr, ℕ, ◌+◌, Bool, true, false, List, [], ◌∷◌, ◌++◌, All, codes, length, map, slice_get, take, Option, Some, None, option_map, option_and_then, refl, sym, ◌∙◌, ap, subst, arith}
use Rattle.std.specs.Prelude.{MatchOption}
use Rattle.std.specs.Str.{bytes_eq}
use Rattle.std.proofs.lemmas.Option.{slice_get-map, slice_get_within}
use Rattle.omx_types.specs.declared.fault.AuditWhy.TheVariants.{BadLine, OtherAct, NotOut, OtherReply, OtherFile, NotEnded}
use Rattle.omx_types.specs.declared.handle.Handle.{Handle}
use Rattle.outside_io.specs.Files.{Outside}
use Rattle.il_machine.specs.declared.answer.Progress.{Progress}
use Rattle.il_machine.specs.declared.port.PortState.{PortState}
use Rattle.il_machine.specs.Answers.{component_named}
use Rattle.il_machine.specs.Ports.{IsCalmPort}
use Rattle.il_machine.specs.Sound.{Sound}
use Rattle.il_machine.specs.World.{Component, Stream, World, stream_of}
use Rattle.machine_laws.proofs.Every.{at_place, from_places}
use Rattle.bare_run_laws.specs.Bare.{bare, bare_component}
use Rattle.act_text.specs.declared.act.TextAct.{TextAct}
use Rattle.act_text.specs.declared.act.TextAct.TheVariants as lines
use Rattle.play_build_laws.specs.Stages.{IsStage, Joining}
use Rattle.play_forms.specs.Plans.{PlanValue}
use Rattle.play_world_laws.proofs.Lists.{get_there}
use Rattle.play_plan_laws.specs.Assemblies.{IsReady, PlayFiles, assembly_of}
use Rattle.play_log.specs.Entries.{Entry, steps_of}
use Rattle.play_log.specs.Lines.{LogLine}
use Rattle.play_log.specs.Naming.{AreTelling, Names}
use Rattle.play_log.specs.Saying.{Of}
use Rattle.play_log.specs.Scenes.{HaveOwnNames, scene_of}
use Rattle.play_log.proofs.Players.{some_same}
use Rattle.play_log.proofs.Same.{names_same, said_brings}
use Rattle.play_log.proofs.Telling.{tells_on}
use Rattle.play_history_laws.proofs.Askings.{many, named_now}
use Rattle.audit_lines.specs.Lines.{pieces_of}
use Rattle.audit_lines.proofs.Spelled.{one_line}
use Rattle.audit_order.specs.Asked.{is_asked}
use Rattle.audit_order.specs.Steps.{IsComplete, OrderValue, nothing_asked as nothing_sent}
use Rattle.audit_order.proofs.One.{admits_one, both_ways}
use Rattle.audit_forms.specs.Audited.{Answers, AtEnd, AtFile, AtLine, AtPiece, AtPlace, AtReply, Audits, Case, ComesNext, IsEnd, IsResting, IsThere, IsWrittenIn, Moment, No, Verdict, after}
use Rattle.audit_forms.specs.Told.{nothing_told, told_after, told_more}
use Rattle.audit_forms.specs.Whole.{IsVerdictFrom, case_of}
use Rattle.audit_laws.proofs.Following.{AreBoth, begun_both, one_follows, sound_there}
use Rattle.audit_laws.proofs.Walking.{history, told_on}

same_told : (verdict other told : Verdict) → verdict ≡ told → other ≡ told → other ≡ verdict
same_told verdict other told e f = f ∙ sym e

comes_one : (plan : PlanValue) (told : List Progress) (x : OrderValue) (act : TextAct) (y z : OrderValue) → HaveOwnNames plan.parts → ComesNext plan told x act y → ComesNext plan told x act z → z ≡ y
comes_one plan told x act y z own (inl H) (inl K) = K.1 ∙ sym H.1
comes_one plan told x act y z own (inl H) (inr K) = absurd (both_ways (is_asked act) K.0 H.0)
comes_one plan told x act y z own (inr H) (inl K) = absurd (both_ways (is_asked act) H.0 K.0)
comes_one plan told x act y z own (inr H) (inr K) = admits_one plan told x act y z own H.1 K.1

-- ---- in two worlds of one bare form

module _ (m n : World) (same : bare m ≡ bare n) where
  components_are : map bare_component m.components ≡ map bare_component n.components
  components_are = ap (λ (w : World). w.components) same

  -- at a place
  placed_as : (k : ℕ) → option_map bare_component (slice_get m.components k) ≡ option_map bare_component (slice_get n.components k)
  placed_as k = sym (slice_get-map bare_component m.components k) ∙ (ap (λ (cs : List Component). slice_get cs k) components_are ∙ slice_get-map bare_component n.components k)

  streams_as : (number : ℕ) → stream_of number m ≡ stream_of number n
  streams_as number = ap (λ (w : World). stream_of number w) same

  headers_as : m.headers ≡ n.headers
  headers_as = ap (λ (w : World). w.headers) same

-- what holds of a component holds of one of the same bare form
match_over : (Holds : Component → Type 0) → ((c d : Component) → bare_component c ≡ bare_component d → Holds c → Holds d) → (o p : Option Component)
    → option_map bare_component o ≡ option_map bare_component p → MatchOption o ⊥ Holds → MatchOption p ⊥ Holds
match_over Holds over None p e h = absurd h
match_over Holds over (Some c) None e h = absurd cc
match_over Holds over (Some c) (Some d) e h = over c d (some_same (bare_component c) (bare_component d) e) h

resting_over : (c d : Component) → bare_component c ≡ bare_component d → IsResting c → IsResting d
resting_over c d e R = record {
  state = sym (ap (λ (x : Component). x.state) e) ∙ R.state;
  calm = record {
    resting = sym (ap (λ (x : Component). x.pending) e) ∙ (R.calm).resting;
    ports = subst (λ (ps : List PortState). All IsCalmPort ps) (ap (λ (x : Component). x.ports) e) (R.calm).ports;
  };
  told = sym (ap (λ (x : Component). x.notes) e) ∙ R.told;
  client = sym (ap (λ (x : Component). x.client_out) e) ∙ R.client;
  work = sym (ap (λ (x : Component). x.work) e) ∙ R.work;
}

written_over : (x y : Case) → x.sinks ≡ y.sinks → (m n : World) → bare m ≡ bare n → IsWrittenIn x m → IsWrittenIn y n
written_over x y s m n e W place text f =
    subst (λ (o : Option Stream). MatchOption o ⊥ (λ t. take (length t.written) text ≡ t.written)) (streams_as m n e place) (W place text (ap (λ (g : ℕ → Option (List ℕ)). g place) s ∙ f))

end_over : (x y : Case) → x.plan ≡ y.plan → x.sinks ≡ y.sinks → (a b : Moment) → a.order ≡ b.order → bare a.world ≡ bare b.world → IsEnd x a → IsEnd y b
end_over x y p s a b o e E = record {
  resting = from_places IsResting (b.world).components (λ k d f.
      let q = placed_as a.world b.world e k in
      rest_at k d (slice_get (a.world).components k) refl (q ∙ ap (option_map bare_component) f));
  unmade = sym (headers_as a.world b.world e) ∙ E.unmade;
  complete = subst (λ (plan : PlanValue). IsComplete plan b.order) p (subst (λ (z : OrderValue). IsComplete x.plan z) o E.complete);
  sinks = λ place text f.
      subst (λ (t : Option Stream). MatchOption t ⊥ (λ g. g.written ≡ text)) (streams_as a.world b.world e place) (E.sinks place text (ap (λ (g : ℕ → Option (List ℕ)). g place) s ∙ f));
}
  where
    rest_at : (k : ℕ) (d : Component) (c : Option Component) → slice_get (a.world).components k ≡ c → option_map bare_component (slice_get (a.world).components k) ≡ Some (bare_component d) → IsResting d
    rest_at k d None f g = (let z : None ≡ Some (bare_component d) = sym (ap (option_map bare_component) f) ∙ g in absurd cc)
    rest_at k d (Some c) f g =
        let z : Some (bare_component c) ≡ Some (bare_component d) = sym (ap (option_map bare_component) f) ∙ g in
        resting_over c d (some_same (bare_component c) (bare_component d) z) (at_place IsResting (a.world).components k c E.resting f)

-- ---- two replays

module _ (plan : PlanValue) (files : PlayFiles) (ready : IsReady plan files) (own : HaveOwnNames plan.parts)
    (handles : List Handle) (w : World) (stage : IsStage (assembly_of plan files) (Joining (length plan.joints)) handles w)
    (others : List Handle) (z : World) (opens : IsStage (assembly_of plan files) (Joining (length plan.joints)) others z) where
  abbrev told_at : List LogLine → List Progress
  told_at rows = told_after rows plan.parts (nothing_told plan.parts)

  abbrev Both : List LogLine → List Entry → List Entry → World → World → OrderValue → Type 0
  Both rows entries those mid now order = AreBoth plan files ready own handles w stage others z opens rows entries those mid now order

  -- a component that is out in the one is in the other
  out_over : (rows : List LogLine) (entries those : List Entry) (mid now : World) (order : OrderValue) → Both rows entries those mid now order
      → (Out : Component → Type 0) → ((c d : Component) → bare_component c ≡ bare_component d → Out c → Out d) → (name : List ℕ)
      → Of (scene_of plan.parts w) name (λ part h. MatchOption (component_named h mid.components) ⊥ Out) → Of (scene_of plan.parts z) name (λ part h. MatchOption (component_named h now.components) ⊥ Out)
  out_over rows entries those mid now order B Out over name x =
      let H = history plan files handles w ready stage own rows entries mid order B.one in
      let K = history plan files others z ready opens own rows those now order B.other in
      let k = (B.one).cursor in
      let j = (B.other).cursor in
      let P = x.3 in
      let at : slice_get handles x.0 ≡ Some x.2 = ap (λ (hs : List Handle). slice_get hs x.0) (sym (stage.built).handles_are) ∙ P.handle in
      let a = many plan files handles w (steps_of entries) k mid H in
      let b = many plan files others z (steps_of those) j now K in
      let low = slice_get_within handles x.0 x.2 at in
      let g = get_there others x.0 (omega (arith, a, b, low)) in
      let here : component_named x.2 mid.components ≡ slice_get mid.components x.0 = ap (option_and_then (slice_get mid.components)) (named_now plan files handles w (steps_of entries) k mid H x.0 x.2 at) in
      let there : component_named g.0 now.components ≡ slice_get now.components x.0 = ap (option_and_then (slice_get now.components)) (named_now plan files others z (steps_of those) j now K x.0 g.0 g.1) in
      let e = ap (option_map bare_component) here ∙ (placed_as mid now B.same x.0 ∙ sym (ap (option_map bare_component) there)) in (
        x.0,
        x.1,
        g.0,
        record { line = P.line; named = P.named; handle = ap (λ (hs : List Handle). slice_get hs x.0) (opens.built).handles_are ∙ g.1 },
        match_over Out over (component_named x.2 mid.components) (component_named g.0 now.components) e x.4,
      )

  there_over : (rows : List LogLine) (entries those : List Entry) (mid now : World) (order : OrderValue) → Both rows entries those mid now order → (outside : Outside) (told told_too : List Progress) (other : OrderValue) (act : TextAct)
      → IsThere (case_of outside plan w) (record { world = mid; told = told; order = order }) act → IsThere (case_of outside plan z) (record { world = now; told = told_too; order = other }) act
  there_over rows entries those mid now order B outside told told_too other (lines.Finish c) x =
      out_over rows entries those mid now order B (λ d. MatchOption d.work ⊥ (λ work. Unit {0})) (λ c d e h. subst (λ o. MatchOption o ⊥ (λ work. Unit {0})) (ap (λ (y : Component). y.work) e) h) c x
  there_over rows entries those mid now order B outside told told_too other (lines.End c) x =
      out_over rows entries those mid now order B (λ d. d.client_out ≡ true) (λ c d e h. sym (ap (λ (y : Component). y.client_out) e) ∙ h) c x
  there_over rows entries those mid now order B outside told told_too other _ x = tt

  -- so it is answered there, too
  record IsAnswered (rows : List LogLine) (entries those : List Entry) (now u : World) (outside : Outside) (told : List Progress) (order next : OrderValue) (line : LogLine) : Type 0 where
    after_it : World
    entry : Entry
    its : Entry
    answers : Answers (case_of outside plan z) (record { world = now; told = told; order = order }) line after_it
    both : Both (rows ++ line ∷ []) (entries ++ entry ∷ []) (those ++ its ∷ []) u after_it next

  answers_over : (rows : List LogLine) (entries those : List Entry) (mid now u : World) (order next : OrderValue) (line : LogLine) → Both rows entries those mid now order → (outside : Outside) (told : List Progress) → told ≡ told_at rows
      → ComesNext plan told order (line.said).act next → Answers (case_of outside plan w) (record { world = mid; told = told; order = order }) line u → IsAnswered rows entries those now u outside told order next line
  answers_over rows entries those mid now u order next line B outside told e comes A =
      let entry : Entry = record { pass = line.pass; act = (A.entry).act; reply = (A.entry).reply } in
      let N : Names (scene_of plan.parts w) mid line entry = record { says = record { pass = refl; act = A.act; reply = A.reply }; meets = A.meets; unbroken = A.unbroken } in
      let F = one_follows plan files ready own handles w stage others z opens rows entries those mid now u order next line entry B N A.step (subst (λ (ps : List Progress). ComesNext plan ps order (line.said).act next) e comes) in
      record {
        after_it = F.after;
        entry = entry;
        its = F.its;
        answers = record { entry = F.its; act = ((F.names).says).act; meets = (F.names).meets; unbroken = (F.names).unbroken; step = F.step; reply = ((F.names).says).reply };
        both = F.both;
      }

-- of two answers there is one world
answers_one : (x : Case) (at : Moment) (line : LogLine) (v u : World) → HaveOwnNames (x.scene).parts → Sound at.world → AreTelling at.world → Answers x at line v → Answers x at line u → u ≡ v
answers_one x at line v u own S T A B =
    let one : Entry = record { pass = line.pass; act = (A.entry).act; reply = (A.entry).reply } in
    let two : Entry = record { pass = line.pass; act = (B.entry).act; reply = (B.entry).reply } in
    (names_same x.scene own (line ∷ []) at.world (one ∷ []) (two ∷ []) v u S T
    (record { says = record { pass = refl; act = A.act; reply = A.reply }; meets = A.meets; unbroken = A.unbroken }, (v, A.step, refl))
    (record { says = record { pass = refl; act = B.act; reply = B.reply }; meets = B.meets; unbroken = B.unbroken }, (u, B.step, refl))).1

module _ (plan : PlanValue) (files : PlayFiles) (ready : IsReady plan files) (own : HaveOwnNames plan.parts) (outside : Outside)
    (handles : List Handle) (w : World) (stage : IsStage (assembly_of plan files) (Joining (length plan.joints)) handles w)
    (others : List Handle) (z : World) (opens : IsStage (assembly_of plan files) (Joining (length plan.joints)) others z) where
  abbrev x : Case
  x = case_of outside plan w

  abbrev y : Case
  y = case_of outside plan z

  abbrev told_by : List LogLine → List Progress
  told_by rows = told_after rows plan.parts (nothing_told plan.parts)

  abbrev Pair : List LogLine → List Entry → List Entry → World → World → OrderValue → Type 0
  Pair rows entries those mid now order = AreBoth plan files ready own handles w stage others z opens rows entries those mid now order

  abbrev Riap : List LogLine → List Entry → List Entry → World → World → OrderValue → Type 0
  Riap rows entries those mid now order = AreBoth plan files ready own others z opens handles w stage rows entries those mid now order

  turned : (rows : List LogLine) (entries those : List Entry) (mid now : World) (order : OrderValue) → Pair rows entries those mid now order → Riap rows those entries now mid order
  turned rows entries those mid now order B = record { one = B.other; other = B.one; same = sym B.same }

  abbrev at : World → List Progress → OrderValue → Moment
  at v told order = record { world = v; told = told; order = order }

  module _ (number : ℕ) (rows : List LogLine) (entries those : List Entry) (mid now : World) (order : OrderValue) (B : Pair rows entries those mid now order) (T : AreTelling now)
      (told : List Progress) (told_is : told ≡ told_by rows) (v u : Verdict) where
    S : Sound now
    S = sound_there plan files others z (steps_of those) (B.other).cursor now (history plan files others z ready opens own rows those now order B.other)

    file_over : (m n : World) → bare m ≡ bare n → (G H : Type 0) → (G → H → u ≡ v) → AtFile x number m v G → AtFile y number n u H → u ≡ v
    file_over m n e G H go (inl a) (inl b) = same_told v u (No number OtherFile) a.1 b.1
    file_over m n e G H go (inl a) (inr b) = absurd (a.0 (written_over y x refl n m (sym e) b.0))
    file_over m n e G H go (inr a) (inl b) = absurd (b.0 (written_over x y refl m n e a.0))
    file_over m n e G H go (inr a) (inr b) = go a.1 b.1

    module _ (line : LogLine) where
      -- what goes on where both answer
      abbrev Goes : OrderValue → (World → Type 0) → (World → Type 0) → Type 0
      Goes next G H = (m n : World) (entry its : Entry) → Pair (rows ++ line ∷ []) (entries ++ entry ∷ []) (those ++ its ∷ []) m n next → AreTelling n → G m → H n → u ≡ v

      reply_over : (next : OrderValue) → ComesNext plan told order (line.said).act next → (G H : World → Type 0) → Goes next G H → AtReply x number (at mid told order) line v G → AtReply y number (at now told order) line u H → u ≡ v
      reply_over next comes G H go (inl a) (inl b) = same_told v u (No number OtherReply) a.1 b.1
      reply_over next comes G H go (inl a) (inr b) =
          let A = answers_over plan files ready own others z opens handles w stage rows those entries now mid b.0 order next line (turned rows entries those mid now order B) outside told told_is comes b.1 in
          absurd (a.0 A.after_it A.answers)
      reply_over next comes G H go (inr a) (inl b) =
          let A = answers_over plan files ready own handles w stage others z opens rows entries those mid now a.0 order next line B outside told told_is comes a.1 in
          absurd (b.0 A.after_it A.answers)
      reply_over next comes G H go (inr a) (inr b) =
          let A = answers_over plan files ready own handles w stage others z opens rows entries those mid now a.0 order next line B outside told told_is comes a.1 in
          let C = A.answers in
          let same : b.0 ≡ A.after_it = answers_one y (at now told order) line A.after_it b.0 own S T C b.1 in
          let tells : AreTelling A.after_it = tells_on now (C.entry).act (C.entry).reply A.after_it S (said_brings y.scene (line.said).act (C.entry).act C.act) T C.meets C.step in
          file_over a.0 A.after_it (A.both).same (G a.0) (H A.after_it) (λ g h. go a.0 A.after_it A.entry A.its A.both tells g h) a.2
          (subst (λ (n : World). AtFile y number n u (H n)) same b.2)

      place_over : (next : OrderValue) → ComesNext plan told order (line.said).act next → (G H : World → Type 0) → Goes next G H → AtPlace x number (at mid told order) line v G → AtPlace y number (at now told order) line u H → u ≡ v
      place_over next comes G H go (inl a) (inl b) = same_told v u (No number NotOut) a.1 b.1
      place_over next comes G H go (inl a) (inr b) =
          absurd (a.0 (there_over plan files ready own others z opens handles w stage rows those entries now mid order (turned rows entries those mid now order B) outside told told order (line.said).act b.0))
      place_over next comes G H go (inr a) (inl b) =
          absurd (b.0 (there_over plan files ready own handles w stage others z opens rows entries those mid now order B outside told told order (line.said).act a.0))
      place_over next comes G H go (inr a) (inr b) = reply_over next comes G H go a.1 b.1

      line_over : (G H : Moment → Type 0) → ((next : OrderValue) → Goes next (λ m. G (after (at mid told order) line x next m)) (λ n. H (after (at now told order) line y next n)))
          → AtLine x number (at mid told order) line v G → AtLine y number (at now told order) line u H → u ≡ v
      line_over G H go (inl a) (inl b) = same_told v u (No number OtherAct) a.1 b.1
      line_over G H go (inl a) (inr b) = absurd (a.0 b.0 b.1)
      line_over G H go (inr a) (inl b) = absurd (b.0 a.0 a.1)
      line_over G H go (inr a) (inr b) =
          let same : b.0 ≡ a.0 = comes_one plan told order (line.said).act a.0 b.0 own a.1 b.1 in
          place_over a.0 a.1 (λ m. G (after (at mid told order) line x a.0 m)) (λ n. H (after (at now told order) line y a.0 n)) (go a.0) a.2
          (subst (λ (next : OrderValue). AtPlace y number (at now told order) line u (λ n. H (after (at now told order) line y next n))) same b.2)

    ended_over : (pieces : List (List ℕ)) → AtEnd x number (at mid told order) pieces v → AtEnd y number (at now told order) pieces u → u ≡ v
    ended_over [] (inl a) (inl b) = b.1 ∙ sym a.1
    ended_over [] (inl a) (inr b) = absurd (b.0 (end_over x y refl refl (at mid told order) (at now told order) refl B.same a.0))
    ended_over [] (inr a) (inl b) = absurd (a.0 (end_over y x refl refl (at now told order) (at mid told order) refl (sym B.same) b.0))
    ended_over [] (inr a) (inr b) = b.1 ∙ sym a.1
    ended_over (piece ∷ pieces) a b = same_told v u (No number BadLine) a b

    piece_over : (last : Bool) (piece : List ℕ) (pieces : List (List ℕ)) (G H : Moment → Type 0)
        → ((line : LogLine) (next : OrderValue) → Goes line next (λ m. G (after (at mid told order) line x next m)) (λ n. H (after (at now told order) line y next n)))
        → AtPiece last x number (at mid told order) piece pieces v G → AtPiece last y number (at now told order) piece pieces u H → u ≡ v
    piece_over true piece pieces G H go a b = ended_over pieces a b
    piece_over false piece pieces G H go (inl a) (inl b) = same_told v u (No number BadLine) a.1 b.1
    piece_over false piece pieces G H go (inl a) (inr b) = absurd (a.0 b.0 b.1)
    piece_over false piece pieces G H go (inr a) (inl b) = absurd (b.0 a.0 a.1)
    piece_over false piece pieces G H go (inr a) (inr b) =
        let line : LogLine = a.0 in
        let same : b.0 ≡ line = one_line number piece line b.0 a.1 b.1 in
        line_over line G H (go line) a.2 (subst (λ (l : LogLine). AtLine y number (at now told order) l u H) same b.2)

  audits_over : (number : ℕ) (rows : List LogLine) (entries those : List Entry) (mid now : World) (order : OrderValue) → Pair rows entries those mid now order → AreTelling now
      → (told : List Progress) → told ≡ told_by rows → (v u : Verdict) (pieces : List (List ℕ)) → Audits x number (at mid told order) pieces v → Audits y number (at now told order) pieces u → u ≡ v
  audits_over number rows entries those mid now order B T told e v u [] a b = same_told v u (No number NotEnded) a b
  audits_over number rows entries those mid now order B T told e v u (piece ∷ pieces) a b =
      piece_over number rows entries those mid now order B T told e v u (bytes_eq piece (codes "end")) piece pieces
      (λ next. Audits x (number + 1) next pieces v) (λ next. Audits y (number + 1) next pieces u)
      (λ line next m n entry its C tells c d.
      audits_over (number + 1) (rows ++ line ∷ []) (entries ++ entry ∷ []) (those ++ its ∷ []) m n next C tells (told_more line.said plan.parts told)
      (ap (told_more line.said plan.parts) e ∙ sym (told_on rows line plan.parts (nothing_told plan.parts))) v u pieces c d)
      a b

  pub replayed : bare w ≡ bare z → AreTelling z → (text : List ℕ) (v u : Verdict) → IsVerdictFrom outside plan w text v → IsVerdictFrom outside plan z text u → u ≡ v
  replayed e T text v u a b =
      audits_over 1 [] [] [] w z nothing_sent (begun_both plan files ready own handles w stage others z opens e) T (nothing_told plan.parts) refl v u (pieces_of text) a b
