-- What is told of a log, in one outside and in another with the same files.
use Rattle.std.proofs.Common.{◌≡◌, ℕ, List, Option, Some, slice_get, sym, ◌∙◌, ap, subst}
use Rattle.std.specs.Prelude.{option_and_then}
use Rattle.outside_io.specs.Files.{Outside}
use Rattle.il_machine.specs.World.{World}
use Rattle.script_lang.specs.declared.play_line.PartLine.{PartLine}
use Rattle.play_forms.specs.Plans.{PlanValue}
use Rattle.play_plan_laws.specs.Assemblies.{PlayFiles}
use Rattle.play_log.specs.Scenes.{scene_of}
use Rattle.play_result_laws.specs.Files.{written_by}
use Rattle.play_result_laws.specs.Results.{IsPlanIn}
use Rattle.play_result_laws.specs.Worlds.{IsEnding}
use Rattle.audit_lines.specs.Lines.{pieces_of}
use Rattle.audit_forms.specs.Audited.{Audits, Case, Verdict, Yes}
use Rattle.audit_forms.specs.Whole.{IsAudited, IsVerdict, case_of, start_at}
use Rattle.omxrun.specs.Audits.{NamesPlay}
use Rattle.omxrun.proofs.Files.{files-before}

abbrev pub Held : Type 0
Held = List ℕ → Option (List ℕ)

pub at-name : (one other : Held) (name : List ℕ) → one ≡ other → one name ≡ other name
at-name one other name same = ap (λ (f : Held). f name) same

module _ (old mid : Outside) (same : mid.file ≡ old.file) where
  pub held-in : (name : List ℕ) (held : Option (List ℕ)) → mid.file name ≡ held → old.file name ≡ held
  held-in name held is = sym (at-name mid.file old.file name same) ∙ is

  pub plan-in : (name log : List ℕ) (plan : PlanValue) (files : PlayFiles) (samples : List (List ℕ)) → IsPlanIn name log mid plan files samples → IsPlanIn name log old plan files samples
  plan-in name log plan files samples P = record {
    text = P.text;
    read = P.read;
    planned = P.planned;
    held = held-in name (Some P.text) P.held;
    is_script = P.is_script;
    is_plan = P.is_plan;
    fitted = P.fitted;
    fit = P.fit;
    files_are = files-before old mid plan.parts files samples same P.files_are;
  }

  pub ends-in : (plan : PlanValue) (w : World) → IsEnding plan mid w → IsEnding plan old w
  ends-in plan w E = record {
    played = E.played;
    sinks = λ place name text writer held. E.sinks place name text writer (at-name mid.file old.file name same ∙ held);
  }

  abbrev case-with : PlanValue → World → Held → Case
  case-with plan opening file = record {
    plan = plan;
    scene = scene_of plan.parts opening;
    sinks = λ place. option_and_then (λ (name : List ℕ). file name) (option_and_then (λ (p : PartLine). written_by p.form) (slice_get plan.parts place));
  }

  case-in : (plan : PlanValue) (opening : World) → case_of mid plan opening ≡ case_of old plan opening
  case-in plan opening = ap (case-with plan opening) same

  pub verdict-in : (plan : PlanValue) (files : PlayFiles) (text : List ℕ) (verdict : Verdict) → IsVerdict mid plan files text verdict → IsVerdict old plan files text verdict
  verdict-in plan files text verdict V = record {
    opening = V.opening;
    opens = V.opens;
    audits = subst (λ (x : Case). Audits x 1 (start_at plan V.opening) (pieces_of text) verdict) (case-in plan V.opening) V.audits;
  }

  abbrev pub audited-in : (name log : List ℕ) (verdict : Verdict) → IsAudited name log mid verdict → IsAudited name log old verdict
  audited-in name log verdict A = record {
    plan = A.plan;
    files = A.files;
    samples = A.samples;
    is = plan-in name log A.plan A.files A.samples A.is;
    ready = A.ready;
    sinks = λ place file writer. (let (told, held) = A.sinks place file writer in (told, held-in file (Some told) held));
    text = A.text;
    held = held-in log (Some A.text) A.held;
    verdict_is = verdict-in A.plan A.files A.text verdict A.verdict_is;
  }

  pub names-in : (name log : List ℕ) (acts : ℕ) → NamesPlay name log mid acts → NamesPlay name log old acts
  names-in name log acts (A, P) = (
    audited-in name log (Yes acts) A,
    record {
      opening = P.opening;
      ending = P.ending;
      entries = P.entries;
      links = P.links;
      opens = P.opens;
      names = P.names;
      many = P.many;
      requested = P.requested;
      ends = ends-in A.plan P.ending P.ends;
      sinks = λ place file writer. held-in file _ (P.sinks place file writer);
    },
  )
