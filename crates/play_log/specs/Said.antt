-- What a text says of an act of the thread that plays.
use Rattle.std.specs.Prelude.{◌≡◌, ℕ, Bool, List, Ok}
use Rattle.omx_types.specs.declared.format.Format.{Format}
use Rattle.omx_types.specs.declared.handle.Handle.{Handle}
use Rattle.omx_types.specs.declared.param.Param.TheVariants.{Port}
use Rattle.part_forms.specs.Kinds.{is_input}
use Rattle.il_machine.specs.Acts.{Act, Reply}
use Rattle.il_machine.specs.Acts as acts
use Rattle.il_machine.specs.Stepping.{WorkDone}
use Rattle.act_text.specs.declared.text.ActText.{ActText}
use Rattle.script_lang.specs.declared.play_line.PartLine.{PartLine}
use Rattle.play_forms.specs.Parts.{kind_of}
use Rattle.play_log.specs.Entries.{Entry}
use Rattle.play_log.specs.Lines.{LogLine}
use Rattle.play_log.specs.Saying.{Says, key}
use Rattle.play_log.specs.Scenes.{Scene, IsPlayer}

-- that thread is the pass 0
abbrev pub line_by : ActText → LogLine
line_by said = record { pass = 0; said = said }

abbrev pub entry_by : Act → Reply → Entry
entry_by act reply = record { pass = 0; act = act; reply = reply }

-- Whatever handle the component of the name has, the text says that act of it.
abbrev pub SaysOf : List ℕ → ActText → (Handle → Act) → Reply → Type 0
SaysOf name said act reply = (s : Scene) (place : ℕ) (part : PartLine) (h : Handle)
    → IsPlayer s place name part h → Says s (line_by said) (entry_by (act h) reply)

-- it says that a work of the component came back, whose step did these frames
abbrev pub SaysFinish : List ℕ → ℕ → ActText → Type 0
SaysFinish name frames said = (s : Scene) (place : ℕ) (part : PartLine) (h : Handle) (done : WorkDone)
    → IsPlayer s place name part h → done.component ≡ h.generation → done.frames ≡ frames
    → Says s (line_by said) (entry_by (acts.Finish done) acts.Finished)

-- of two components, whatever handles they have
abbrev pub SaysOfBoth : List ℕ → List ℕ → ActText → (Handle → Handle → Act) → Reply → Type 0
SaysOfBoth first second said act reply = (s : Scene) (place other : ℕ) (part beside : PartLine) (h k : Handle)
    → IsPlayer s place first part h → IsPlayer s other second beside k → Says s (line_by said) (entry_by (act h k) reply)

-- it says that a port's definition was set, of the port's own direction
abbrev pub SaysPort : List ℕ → ℕ → Format → ℕ → ℕ → ActText → Type 0
SaysPort name index format count size said = (s : Scene) (place : ℕ) (part : PartLine) (h : Handle) (input : Bool)
    → IsPlayer s place name part h → is_input (kind_of part.form) index ≡ input
    → Says s (line_by said)
    (entry_by (acts.SetParameter h (key 1 index) (Port (record { input = input; format = format; count = count; size = size }))) (acts.Plain (Ok tt)))
