-- A text has one verdict: each test of a line passes or doesn't, and what it goes on with is one.
use Rattle.std.proofs.Common.{◌≡◌, inl, inr, ℕ, ◌+◌, Bool, true, false, List, [], ◌∷◌, codes, refl, sym, ◌∙◌, subst}
use Rattle.std.specs.Str.{bytes_eq}
use Rattle.omx_types.specs.declared.fault.AuditWhy.TheVariants.{BadLine, OtherAct, NotOut, OtherReply, OtherFile, NotEnded}
use Rattle.outside_io.specs.Files.{Outside}
use Rattle.il_machine.specs.Sound.{Sound}
use Rattle.il_machine.specs.World.{World}
use Rattle.machine_laws.proofs.Steps.{sound_step}
use Rattle.act_text.specs.declared.act.TextAct.{TextAct}
use Rattle.play_forms.specs.Plans.{PlanValue}
use Rattle.play_log.specs.Entries.{Entry}
use Rattle.play_log.specs.Lines.{LogLine}
use Rattle.play_log.specs.Naming.{AreTelling, NameAll}
use Rattle.play_log.specs.Scenes.{HaveOwnNames}
use Rattle.play_log.proofs.Same.{names_same, said_brings}
use Rattle.play_log.proofs.Telling.{tells_on}
use Rattle.play_plan_laws.specs.Assemblies.{PlayFiles}
use Rattle.play_result_laws.specs.Results.{IsPlanIn}
use Rattle.play_result_laws.specs.Worlds.{IsOpening}
use Rattle.play_result_laws.proofs.OneLog.{opening_tells}
use Rattle.play_result_laws.proofs.OwnNames.{own_names}
use Rattle.audit_lines.specs.Lines.{pieces_of}
use Rattle.audit_lines.proofs.Spelled.{one_line}
use Rattle.audit_order.specs.Asked.{is_asked}
use Rattle.audit_order.specs.Steps.{OrderValue}
use Rattle.audit_order.proofs.One.{admits_one, both_ways}
use Rattle.audit_forms.specs.Audited.{Answers, AtEnd, AtFile, AtLine, AtPiece, AtPlace, AtReply, Audits, Case, IsNext, Moment, No, Verdict, after}
use Rattle.audit_forms.specs.Whole.{IsVerdictFrom, case_of, start_at}

same_told : (verdict other told : Verdict) → verdict ≡ told → other ≡ told → other ≡ verdict
same_told verdict other told e f = f ∙ sym e

-- ---- what one line says

next_one : (x : Case) (at : Moment) (act : TextAct) (y z : OrderValue) → HaveOwnNames (x.plan).parts → IsNext x at act y → IsNext x at act z → z ≡ y
next_one x at act y z own (inl H) (inl K) = K.1 ∙ sym H.1
next_one x at act y z own (inl H) (inr K) = absurd (both_ways (is_asked act) K.0 H.0)
next_one x at act y z own (inr H) (inl K) = absurd (both_ways (is_asked act) H.0 K.0)
next_one x at act y z own (inr H) (inr K) = admits_one x.plan at.told at.order act y z own H.1 K.1

abbrev entry_of : (x : Case) (at : Moment) (line : LogLine) (v : World) → Answers x at line v → Entry
entry_of x at line v A = record { pass = line.pass; act = (A.entry).act; reply = (A.entry).reply }

named_by : (x : Case) (at : Moment) (line : LogLine) (v : World) (A : Answers x at line v) → NameAll x.scene at.world (line ∷ []) (entry_of x at line v A ∷ []) v
named_by x at line v A = (
  record { says = record { pass = refl; act = A.act; reply = A.reply }; meets = A.meets; unbroken = A.unbroken },
  (v, A.step, refl),
)

answer_one : (x : Case) (at : Moment) (line : LogLine) (v u : World) → HaveOwnNames (x.scene).parts → Sound at.world → AreTelling at.world
    → Answers x at line v → Answers x at line u → u ≡ v
answer_one x at line v u own S T A B =
    (names_same x.scene own (line ∷ []) at.world (entry_of x at line v A ∷ []) (entry_of x at line u B ∷ []) v u S T (named_by x at line v A) (named_by x at line u B)).1

answer_sound : (x : Case) (at : Moment) (line : LogLine) (v : World) → Sound at.world → Answers x at line v → Sound v
answer_sound x at line v S A = sound_step at.world v (A.entry).act (A.entry).reply A.meets A.step S

answer_tells : (x : Case) (at : Moment) (line : LogLine) (v : World) → Sound at.world → AreTelling at.world → Answers x at line v → AreTelling v
answer_tells x at line v S T A =
    tells_on at.world (A.entry).act (A.entry).reply v S (said_brings x.scene (line.said).act (A.entry).act A.act) T A.meets A.step

-- ---- the tests of a line

module _ (x : Case) (number : ℕ) (at : Moment) (line : LogLine) (verdict other : Verdict) where
  file_one : (v : World) (G H : Type 0) → (G → H → other ≡ verdict) → AtFile x number v verdict G → AtFile x number v other H → other ≡ verdict
  file_one v G H go (inl a) (inl b) = same_told verdict other (No number OtherFile) a.1 b.1
  file_one v G H go (inl a) (inr b) = absurd (a.0 b.0)
  file_one v G H go (inr a) (inl b) = absurd (b.0 a.0)
  file_one v G H go (inr a) (inr b) = go a.1 b.1

  reply_one : (G H : World → Type 0) → ((v u : World) → Answers x at line v → Answers x at line u → u ≡ v) → ((v : World) → Answers x at line v → G v → H v → other ≡ verdict)
      → AtReply x number at line verdict G → AtReply x number at line other H → other ≡ verdict
  reply_one G H one go (inl a) (inl b) = same_told verdict other (No number OtherReply) a.1 b.1
  reply_one G H one go (inl a) (inr b) = absurd (a.0 b.0 b.1)
  reply_one G H one go (inr a) (inl b) = absurd (b.0 a.0 a.1)
  reply_one G H one go (inr a) (inr b) =
      let same : b.0 ≡ a.0 = one a.0 b.0 a.1 b.1 in
      file_one a.0 (G a.0) (H a.0) (go a.0 a.1) a.2 (subst (λ (w : World). AtFile x number w other (H w)) same b.2)

  place_one : (G H : World → Type 0) → ((v u : World) → Answers x at line v → Answers x at line u → u ≡ v) → ((v : World) → Answers x at line v → G v → H v → other ≡ verdict)
      → AtPlace x number at line verdict G → AtPlace x number at line other H → other ≡ verdict
  place_one G H one go (inl a) (inl b) = same_told verdict other (No number NotOut) a.1 b.1
  place_one G H one go (inl a) (inr b) = absurd (a.0 b.0)
  place_one G H one go (inr a) (inl b) = absurd (b.0 a.0)
  place_one G H one go (inr a) (inr b) = reply_one G H one go a.1 b.1

  line_one : (G H : Moment → Type 0) → HaveOwnNames (x.plan).parts → ((v u : World) → Answers x at line v → Answers x at line u → u ≡ v)
      → ((next : OrderValue) (v : World) → Answers x at line v → G (after at line x next v) → H (after at line x next v) → other ≡ verdict)
      → AtLine x number at line verdict G → AtLine x number at line other H → other ≡ verdict
  line_one G H own one go (inl a) (inl b) = same_told verdict other (No number OtherAct) a.1 b.1
  line_one G H own one go (inl a) (inr b) = absurd (a.0 b.0 b.1)
  line_one G H own one go (inr a) (inl b) = absurd (b.0 a.0 a.1)
  line_one G H own one go (inr a) (inr b) =
      let same : b.0 ≡ a.0 = next_one x at (line.said).act a.0 b.0 own a.1 b.1 in
      place_one (λ v. G (after at line x a.0 v)) (λ v. H (after at line x a.0 v)) one (go a.0) a.2
      (subst (λ (next : OrderValue). AtPlace x number at line other (λ v. H (after at line x next v))) same b.2)

-- ---- all lines

end_one : (x : Case) (number : ℕ) (at : Moment) (pieces : List (List ℕ)) (verdict other : Verdict) → AtEnd x number at pieces verdict → AtEnd x number at pieces other → other ≡ verdict
end_one x number at [] verdict other (inl a) (inl b) = b.1 ∙ sym a.1
end_one x number at [] verdict other (inl a) (inr b) = absurd (b.0 a.0)
end_one x number at [] verdict other (inr a) (inl b) = absurd (a.0 b.0)
end_one x number at [] verdict other (inr a) (inr b) = b.1 ∙ sym a.1
end_one x number at (piece ∷ pieces) verdict other a b = same_told verdict other (No number BadLine) a b

piece_one : (last : Bool) (x : Case) (number : ℕ) (at : Moment) (piece : List ℕ) (pieces : List (List ℕ)) (verdict other : Verdict) (G H : Moment → Type 0)
    → HaveOwnNames (x.plan).parts → HaveOwnNames (x.scene).parts → Sound at.world → AreTelling at.world
    → ((m : Moment) → Sound m.world → AreTelling m.world → G m → H m → other ≡ verdict)
    → AtPiece last x number at piece pieces verdict G → AtPiece last x number at piece pieces other H → other ≡ verdict
piece_one true x number at piece pieces verdict other G H own named S T go a b = end_one x number at pieces verdict other a b
piece_one false x number at piece pieces verdict other G H own named S T go (inl a) (inl b) = same_told verdict other (No number BadLine) a.1 b.1
piece_one false x number at piece pieces verdict other G H own named S T go (inl a) (inr b) = absurd (a.0 b.0 b.1)
piece_one false x number at piece pieces verdict other G H own named S T go (inr a) (inl b) = absurd (b.0 a.0 a.1)
piece_one false x number at piece pieces verdict other G H own named S T go (inr a) (inr b) =
    let line : LogLine = a.0 in
    let same : b.0 ≡ line = one_line number piece line b.0 a.1 b.1 in
    line_one x number at line verdict other G H own (λ v u. answer_one x at line v u named S T)
    (λ next v A. go (after at line x next v) (answer_sound x at line v S A) (answer_tells x at line v S T A))
    a.2 (subst (λ (l : LogLine). AtLine x number at l other H) same b.2)

pub audits_one : (x : Case) (number : ℕ) (at : Moment) (pieces : List (List ℕ)) (verdict other : Verdict)
    → HaveOwnNames (x.plan).parts → HaveOwnNames (x.scene).parts → Sound at.world → AreTelling at.world
    → Audits x number at pieces verdict → Audits x number at pieces other → other ≡ verdict
audits_one x number at [] verdict other own named S T a b = same_told verdict other (No number NotEnded) a b
audits_one x number at (piece ∷ pieces) verdict other own named S T a b =
    piece_one (bytes_eq piece (codes "end")) x number at piece pieces verdict other
    (λ next. Audits x (number + 1) next pieces verdict) (λ next. Audits x (number + 1) next pieces other) own named S T
    (λ m sound tells c d. audits_one x (number + 1) m pieces verdict other own named sound tells c d) a b

pub text_one : (script log text : List ℕ) (outside : Outside) (plan : PlanValue) (files : PlayFiles) (samples : List (List ℕ)) (opening : World) (verdict other : Verdict)
    → IsPlanIn script log outside plan files samples → IsOpening plan files opening
    → IsVerdictFrom outside plan opening text verdict → IsVerdictFrom outside plan opening text other → other ≡ verdict
text_one script log text outside plan files samples opening verdict other P O a b =
    let own : HaveOwnNames plan.parts = subst HaveOwnNames (sym (P.fitted).parts) (own_names script log P.text P.read P.planned P.is_script P.is_plan) in
    audits_one (case_of outside plan opening) 1 (start_at plan opening) (pieces_of text) verdict other own own (O.1).sound
    (opening_tells outside plan files samples opening P.files_are O) a b
