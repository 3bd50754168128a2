use Rattle.std.proofs.Common.{◌<◌, List, ℕ, ◌++◌, ap, drop, length, ◌+◌, ◌∙◌, arith}
use Rattle.std.proofs.lemmas.List.{drop_all}
use Rattle.setup_files.proofs.ReadLaws.{read_there}
use Rattle.setup_check.proofs.ScriptTextLaws.{dropped, tells_more, tells_all}
use Rattle.setup_check.proofs.scripts.scripts_text.Goals as goal

pub loop-index-preserved : goal.loop-index-preserved
loop-index-preserved c = λ files h.
    let entries = c.args.entries.now in
    let reads = c.args.reads.now in
    let i = c.loop-index.index in
    let entry = c.index-entries-index.result in
    let lt : i < length reads = omega (arith, c.requires.one_each, c.loop-index-test.true) in
    let read = read_there files entries reads i entry c.index-reads-index.result h lt c.index-entries-index.is c.index-reads-index.is in
    tells_more files c.args.told entries (drop i entries) (drop (i + 1) entries) entry c.loop-index.text.items c.in_ok-own.own.items c.extend_from_slice.new.self.items
    (c.loop-index.invariant files h) (dropped entries i entry c.loop-index-test.true c.index-entries-index.is) (c.in_ok-own.ensures.value files read)
    (c.in_ok-extend_from_slice.ensures.items ∙ ap (λ (t : List ℕ). c.loop-index.text.items ++ t) c.deref.ensures.value)

pub returns : goal.returns
returns c = record {
  value = λ files h. tells_all files c.args.told c.args.entries.now _ c.loop-index.text.items (c.loop-index.invariant files h) (drop_all _ c.args.entries.now c.loop-index-test.false);
}
