-- A log that is told an act has the lines of a history with one entry more, and its text is that of the history.
use Rattle.std.proofs.Common.{◌≡◌, ℕ, ◌^◌, ◌<◌, true, false, List, [], ◌∷◌, ◌++◌, Result, Ok, Err, OnOk, OnErr, ap}
use Rattle.std.specs.Prelude.{IfOk}
use Rattle.std.proofs.lemmas.List.Elements.{All-nil}
use Rattle.act_text.specs.Texts.{IsActText}
use Rattle.act_text.specs.declared.text.ActText.{ActText}
use Rattle.play_log.specs.Entries.{Entry, is_unprinted}
use Rattle.play_log.specs.Kept.{LogValue, IsKept}
use Rattle.play_log.specs.Lines.{LogLine, IsLogLine, lines_of, log_text}
use Rattle.play_log.specs.Logged.{IsLogged, Keeps}
use Rattle.play_log.specs.Saying.{Says}
use Rattle.play_log.specs.Scenes.{Scene}
use Rattle.play_log.proofs.Shown.{one_more}

pub on_err : {T E P : Type 0} (result : Result T E) → P → OnErr result P
on_err (Ok done) h = tt
on_err (Err error) h = h

pub keeps_none : (s : Scene) (log : LogValue) → IsKept [] log → Keeps s [] log
keeps_none s log K whole = ([], K, record { canonical = All-nil IsLogLine; say = tt })

pub keeps_more : {E : Type 0} (pass : ℕ) (act : ActText) (old new : LogValue) (result : Result (Unit {0}) E)
    → pass < 2 ^ 32 → IsActText act
    → ((lines : List LogLine) → IsKept lines old → OnOk result (IsKept (lines ++ lines_of pass act) new))
    → OnOk result ((old.broken ≡ false) × (new.broken ≡ false)) → OnErr result (new ≡ record old { broken = true })
    → (s : Scene) (history : List Entry) (entry : Entry) → Keeps s history old → Says s (record { pass = pass; said = act }) entry → is_unprinted entry.reply ≡ false → Keeps s (history ++ entry ∷ []) new
keeps_more pass act old new (Ok done) small is line both broken s history entry K x p whole =
    let k = K both.0 in
    (k.0 ++ lines_of pass act, line k.0 k.1, one_more s history k.0 (record { pass = pass; said = act }) entry k.2 (record { pass = small; said = is }) x p)
keeps_more pass act old new (Err error) small is line both broken s history entry K x p whole =
    let e : new.broken ≡ true = ap (λ (l : LogValue). l.broken) broken in
    absurd cc

-- the text of a log that was ended
pub keeps_text : {E : Type 0} (log : LogValue) (result : Result (List ℕ) E)
    → ((lines : List LogLine) → IsKept lines log → IfOk result (λ text. text ≡ log_text lines)) → OnOk result (log.broken ≡ false)
    → (s : Scene) (history : List Entry) → Keeps s history log → IfOk result (IsLogged s history)
keeps_text log (Ok text) texts whole s history K =
    let k = K whole in
    record { lines = k.0; of_history = k.2; whole = texts k.0 k.1 }
keeps_text log (Err error) texts whole s history K = tt
