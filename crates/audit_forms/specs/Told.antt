-- What the components of a play have told, by the lines of its log.
use Rattle.std.specs.Prelude.{◌≡◌, ℕ, List, [], ◌∷◌, map, slice_get, Some, if◌then◌else◌}
use Rattle.std.specs.Str.{bytes_eq}
use Rattle.omx_types.specs.declared.handle.Handle.{Handle}
use Rattle.il_machine.specs.declared.answer.Progress.{Progress}
use Rattle.il_machine.specs.Components.{moved_by, no_progress}
use Rattle.act_text.specs.declared.act.TextAct.{TextAct}
use Rattle.act_text.specs.declared.act.TextAct.TheVariants as lines
use Rattle.act_text.specs.declared.reply.TextReply.{TextReply}
use Rattle.act_text.specs.declared.reply.TextReply.TheVariants as texts
use Rattle.act_text.specs.declared.text.ActText.{ActText}
use Rattle.script_lang.specs.declared.play_line.PartLine.{PartLine}
use Rattle.play_log.specs.Lines.{LogLine}
use Rattle.play_log.specs.Scenes.{Scene}

-- a `take` of the component of that name tells its event
abbrev pub heard_by : List ℕ → TextAct → TextReply → Progress → Progress
heard_by name (lines.Take component) (texts.Event event) p = if bytes_eq component name then moved_by event p else p
heard_by name act reply p = p

abbrev pub heard_line : ActText → PartLine → Progress → Progress
heard_line said part p = heard_by part.name said.act said.reply p

-- by one line more, for each component
abbrev pub told_more : ActText → List PartLine → List Progress → List Progress
told_more said (part ∷ parts) (p ∷ told) = heard_line said part p ∷ told_more said parts told
told_more said _ _ = []

-- before the first line
abbrev pub nothing_told : List PartLine → List Progress
nothing_told parts = map (λ part. no_progress) parts

-- after these lines
abbrev pub told_after : List LogLine → List PartLine → List Progress → List Progress
told_after [] parts told = told
told_after (line ∷ lines) parts told = told_after lines parts (told_more line.said parts told)

-- a component's number is its place
abbrev pub HaveNumbers : Scene → Type 0
HaveNumbers s = (place : ℕ) (h : Handle) → slice_get s.handles place ≡ Some h → h.generation ≡ place
