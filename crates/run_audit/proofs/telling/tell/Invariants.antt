use Rattle.std.proofs.Common.{◌≡◌, ℕ, ◌<◌, ◌≤◌, slice_get}
use Rattle.act_text.specs.declared.act.TextAct.TheVariants as lines
use Rattle.act_text.specs.declared.reply.TextReply.TheVariants as texts
use Rattle.audit_forms.specs.Told.{told_more}
use Rattle.run_audit.proofs.telling.tell.Given as goal

-- those before the place were told, the others weren't yet
abbrev pub invariant-loop-place : goal.invariant-loop-place
invariant-loop-place l =
    ((k : ℕ) → k < l.place → slice_get l.told k ≡ slice_get (told_more (record { act = lines.Take l.name; reply = texts.Event l.event }) l.parts l.initial.told) k)
    × ((k : ℕ) → l.place ≤ k → slice_get l.told k ≡ slice_get l.initial.told k)
