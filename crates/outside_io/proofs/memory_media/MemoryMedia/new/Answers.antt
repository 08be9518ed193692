use Rattle.std.proofs.Common.{rules, ◌≡◌, ◌∙◌, sym, ap, ℕ, Some, [], ◌∷◌, ◌++◌, String, Vec}
use Rattle.std.specs.declared.alloc.Global.{Global}
use Rattle.outside_io.specs.Entries.{content, content_from}
use Rattle.outside_io.specs.MemoryFiles.{chained, file_or}
use Rattle.outside_io.specs.Fails.{ends_of, refuses, fails_of}
use Rattle.outside_io.proofs.Failures.{fails_of-planned}
use Rattle.outside_io.proofs.Chains.{chained-append, chained-same, content_from-roll}
use Rattle.outside_io.specs.declared.entries.Entry.{Entry}
use Rattle.outside_io.proofs.memory_media.MemoryMedia.new.Goals as goal

pub loop-name-preserved : goal.loop-name-preserved
loop-name-preserved c = λ asked.
    let file : String Global × Vec ℕ Global = (c.in-Some.name, c.in-Some.bytes) in
    let held : content (Some c.in_ok-new.field-0) asked ≡ file_or file (content c.loop-name.entries) asked = ap (λ (e : Entry). content_from e asked) c.in_ok-new.ensures.ok ∙ content_from-roll c.in-Some.name c.in-Some.bytes c.loop-name.entries asked in
    let taken : c.loop-name.files.items ≡ c.pop.new.self.items ++ file ∷ [] = search rules in
    chained-same c.pop.new.self.items (content (Some c.in_ok-new.field-0)) (file_or file (content c.loop-name.entries)) asked held
    ∙ sym (chained-append c.pop.new.self.items file (content c.loop-name.entries) asked)
    ∙ ap (λ items. chained items (content c.loop-name.entries) asked) (sym taken)
    ∙ c.loop-name.invariant asked

pub returns-clause-ends : goal.returns-clause-ends
returns-clause-ends c = ap ends_of (ap fails_of c.in_ok-all.ensures ∙ fails_of-planned c.args.fails.items)

pub returns-clause-refuses : goal.returns-clause-refuses
returns-clause-refuses c = ap refuses (ap fails_of c.in_ok-all.ensures ∙ fails_of-planned c.args.fails.items)
