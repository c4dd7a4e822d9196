use Rattle.std.proofs.Common.{◌≡◌, ◌==◌, ◌||◌, true, false, sym, ap, ◌∙◌, subst, arith, rules}
use Rattle.std.proofs.lemmas.Bool.Decides.{nat_tests}
use Rattle.code_table.specs.Flags.{exec_bits}
use Rattle.board_journal.specs.Ports.{asks_report}
use Rattle.board_journal.specs.Steps.{Journal, port_log}
use Rattle.board_rules.specs.Turns.{owes_report}
use Rattle.board_rules.specs.Conduct.{MayTakeRequests}
use Rattle.board_turns.specs.declared.board.Board.{Board}
use Rattle.board_turns.specs.declared.board.Flags.TheVariants as words
use Rattle.board_turns.specs.Boards.{Keeps}
use Rattle.board_turns.specs.Turning.{flags_behind, obeying, to_obey}
use Rattle.board_turns.specs.Reporting.{MayObeyNow}
use Rattle.board_turns.proofs.Steps.{other_flags, halts_by}
use Rattle.board_turns.proofs.Requests.{takes_word, still_greeted}
use Rattle.board_turns.proofs.Halting.{taken}
use Rattle.board_turns.proofs.Silent.{owes_as_before, takes_none, obeys_none}
use Rattle.board_turns.proofs.Words.{asked_owed, asked_free, port_stands, obeys_at_once}
use Rattle.board_turns.proofs.board.Board.take_requests.Goals as goal

pub returns-then-self-clause-goes_on : goal.returns-then-self-clause-goes_on
returns-then-self-clause-goes_on g c = λ rest first h stands k awaits no_jog.
    let n = c.settle.ensures.goes_on rest first h stands k in
    let j = n.0 in
    let word = c.take_exec-word.result in
    let may : MayTakeRequests word j = record { greeted = still_greeted first c.args.self.now c.settle.new.self h j k n.2 (ap (λ (b : Board _). b.greeted) c.settle.ensures.same) awaits.greeted; obeyed = n.3.passes.words ∙ awaits.obeyed; few = λ e. c.take_exec-word.ensures.few e rest first (port_log j) n.1 } in
    let owes_is = ap (λ b. b || c.settle.new.self.owes) c.asks_report.ensures ∙ ap (λ b. asks_report word || b) n.2.owes_is in
    let owed : owes_report (taken word j) ≡ _ = sym owes_is ∙ c.if-self.true in
    let is = asked_owed first word j owed in
    let board = record c.settle.new.self { owes = c.asks_report.result || c.settle.new.self.owes; resetting = c.resets_behind-self.result } in (
      word,
      j,
      n.3,
      subst (λ (x : Journal). g.P.EpochPort.stands c.take_exec-word.new.self rest first (port_log x)) (sym is) (c.take_exec-word.ensures.taken rest first (port_log j) n.1),
      subst (λ (x : Journal). Keeps first (record board { flags = words.Report c.to_obey-waiting.result }) x) (sym is) (other_flags first board (words.Report c.to_obey-waiting.result) (taken word j) (takes_word first c.settle.new.self (c.asks_report.result || c.settle.new.self.owes) c.resets_behind-self.result word j n.2 may owes_is (c.resets_behind-self.ensures first j n.2))),
      ap (λ w. words.Report w) c.to_obey-waiting.ensures ∙ sym (ap (λ b. flags_behind b word) owed),
    )

pub returns-clause-goes_on : goal.returns-clause-goes_on
returns-clause-goes_on g c = λ rest first h stands k awaits no_jog.
    let n = c.settle.ensures.goes_on rest first h stands k in
    let j = n.0 in
    let word = c.take_exec-word.result in
    let left = n.3.passes.words ∙ awaits.obeyed in
    let takes : MayTakeRequests word j = record { greeted = still_greeted first c.args.self.now c.settle.new.self h j k n.2 (ap (λ (b : Board _). b.greeted) c.settle.ensures.same) awaits.greeted; obeyed = left; few = λ e. c.take_exec-word.ensures.few e rest first (port_log j) n.1 } in
    let owes_is = ap (λ b. b || c.settle.new.self.owes) c.asks_report.ensures ∙ ap (λ b. asks_report word || b) n.2.owes_is in
    let unowed : owes_report (taken word j) ≡ _ = sym owes_is ∙ c.if-self.false in
    let is = asked_free first word j unowed in
    let kept = other_flags first (record c.settle.new.self { owes = c.asks_report.result || c.settle.new.self.owes; resetting = c.resets_behind-self.result }) words.None (taken word j) (takes_word first c.settle.new.self (c.asks_report.result || c.settle.new.self.owes) c.resets_behind-self.result word j n.2 takes owes_is (c.resets_behind-self.ensures first j n.2)) in
    let waits = c.to_obey-waiting.ensures in
    let may = subst (λ w. MayObeyNow first w (taken word j)) (sym waits) (obeys_at_once first word h j (halts_by first c.settle.new.self j n.2) n.3 no_jog left unowed) in
    let obeyed = subst (λ w. Keeps first c.obey_waiting.new.self (obeying first w (taken word j))) waits (c.obey_waiting.ensures.goes_on first (taken word j) kept may) in (
      word,
      j,
      n.3,
      subst (λ (x : Journal). g.P.EpochPort.stands c.take_exec-word.new.self rest first (port_log x)) (sym is) (port_stands first (λ l. g.P.EpochPort.stands c.take_exec-word.new.self rest first l) word j (c.take_exec-word.ensures.taken rest first (port_log j) n.1)),
      subst (λ (x : Journal). Keeps first c.obey_waiting.new.self x) (sym is) obeyed,
      ap (λ (b : Board _). b.flags) c.obey_waiting.ensures.same ∙ sym (ap (λ b. flags_behind b word) unowed),
    )

pub returns-then-not-self-clause-goes_on : goal.returns-then-not-self-clause-goes_on
returns-then-not-self-clause-goes_on g c = λ rest first h stands k awaits no_jog.
    let n = c.settle.ensures.goes_on rest first h stands k in
    let j = n.0 in
    let word = c.take_exec-word.result in
    let empty : (exec_bits word == 0) ≡ true = search rules in
    let none : exec_bits word ≡ 0 = grind (arith, nat_tests, empty) in
    let left = n.3.passes.words ∙ awaits.obeyed in
    let takes : MayTakeRequests word j = record { greeted = still_greeted first c.args.self.now c.settle.new.self h j k n.2 (ap (λ (b : Board _). b.greeted) c.settle.ensures.same) awaits.greeted; obeyed = left; few = λ e. c.take_exec-word.ensures.few e rest first (port_log j) n.1 } in
    let unowed : owes_report (taken word j) ≡ false = owes_as_before word j none ∙ sym n.2.owes_is ∙ c.if-not-self.true in
    let is = asked_free first word j unowed in
    let kept = takes_none first c.settle.new.self word j none n.2 takes in
    let may = obeys_at_once first word h j (halts_by first c.settle.new.self j n.2) n.3 no_jog left unowed in
    let obeyed = other_flags first c.settle.new.self words.None (obeying first (to_obey word) (taken word j)) (obeys_none first c.settle.new.self word (taken word j) none kept may) in (
      word,
      j,
      n.3,
      subst (λ (x : Journal). g.P.EpochPort.stands c.take_exec-word.new.self rest first (port_log x)) (sym is) (port_stands first (λ l. g.P.EpochPort.stands c.take_exec-word.new.self rest first l) word j (c.take_exec-word.ensures.taken rest first (port_log j) n.1)),
      subst (λ (x : Journal). Keeps first (record c.settle.new.self { flags = words.None }) x) (sym is) obeyed,
      sym (ap (λ b. flags_behind b word) unowed),
    )
