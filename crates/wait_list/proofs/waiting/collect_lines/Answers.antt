use Rattle.std.proofs.Common.{arith, sym, ◌∙◌, ap, subst, List, length}
use Rattle.std.specs.Prelude.{All}
use Rattle.std.proofs.lemmas.List.Elements.{All-nil}
use Rattle.scr_reader.specs.Printed.{LineFits}
use Rattle.scr_reader.specs.declared.line.Line.{Line}
use Rattle.holding_book.specs.declared.answer.Entry.{Entry}
use Rattle.wait_list.specs.Waiting.{unmet_line, with_line, waiting_after}
use Rattle.wait_list.proofs.WaitLemmas.{waiting-begin, after-end, after-on, few-on, spelled-on}
use Rattle.wait_list.proofs.waiting.collect_lines.Goals as goal

pub loop-entry-init : goal.loop-entry-init
loop-entry-init c =
    let b = c.args.book.now.book in
    let history = c.args.history.now in
    let none = c.new-lines.ensures.items in
    record {
      lines = ap (λ (lines : List Line). waiting_after b lines history) none ∙ waiting-begin b history;
      few = omega (arith, ap (λ (lines : List Line). length lines) none);
      spelled = subst (λ (lines : List Line). All (LineFits b.declaration.season) lines) (sym none) (All-nil (LineFits b.declaration.season));
    }

pub loop-entry-preserved : goal.loop-entry-preserved
loop-entry-preserved c =
    let b = c.args.book.now.book in
    let history = c.args.history.now in
    let i = c.loop-entry.entry-index in
    let entry = c.entry-item.result in
    let old = c.loop-entry.lines.items in
    let new = c.add_entry.new.lines.items in
    let is = c.in_ok-add_entry.ensures ∙ ap (λ (e : Entry). with_line b old (unmet_line e)) c.entry-item.is in
    record {
      lines = after-on b history i entry old new is c.loop-entry-test.true c.loop-entry.invariant.lines;
      few = few-on b history i entry old new is c.loop-entry.invariant.few;
      spelled = spelled-on b history i entry old new is c.loop-entry-test.true c.requires.can c.loop-entry.invariant.spelled;
    }

pub returns-clause-lines : goal.returns-clause-lines
returns-clause-lines c =
    sym (after-end c.args.book.now.book c.loop-entry.lines.items c.args.history.now c.loop-entry.entry-index (omega arith)) ∙ c.loop-entry.invariant.lines
