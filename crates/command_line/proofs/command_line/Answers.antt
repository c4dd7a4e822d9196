use Rattle.std.proofs.Common.{rules, ◌≡◌, ◌∙◌, ap, ap₂, codes}
use Rattle.std.proofs.lemmas.Result.{IfOk-weaker}
use Rattle.clap.specs.Simple.{App, app_of, with_subcommand}
use Rattle.command_line.specs.Command.{stream_command, moves_command, grbl}
use Rattle.command_line.proofs.command_line.Goals as goal

pub returns : goal.returns
returns c =
    let stream_is : app_of c.in_ok-stream_command.field-0 ≡ stream_command = c.in_ok-stream_command.ensures.shape in
    let demo_is : app_of c.in_ok-moves_command.field-0 ≡ moves_command (codes "demo") = c.in_ok-moves_command.ensures.shape in
    let pins_is : app_of c.in_ok-moves_command-2.field-0 ≡ moves_command (codes "pins") = c.in_ok-moves_command-2.ensures.shape in
    let top : app_of c.subcommand_required.result ≡ grbl = search rules in
    let first : app_of c.in_ok-subcommand.field-0 ≡ with_subcommand grbl stream_command.top = c.in_ok-subcommand.ensures.shape c.in_ok-stream_command.ensures.local ∙ ap₂ with_subcommand top (ap (λ (a : App). a.top) stream_is) in
    let second : app_of c.in_ok-subcommand-2.field-0 ≡ with_subcommand (with_subcommand grbl stream_command.top) (moves_command (codes "demo")).top =
    c.in_ok-subcommand-2.ensures.shape c.in_ok-moves_command.ensures.local ∙ ap₂ with_subcommand first (ap (λ (a : App). a.top) demo_is) in
    IfOk-weaker c.subcommand-3.result _ _ (λ m h. h.shape c.in_ok-moves_command-2.ensures.local ∙ ap₂ with_subcommand second (ap (λ (a : App). a.top) pins_is)) c.subcommand-3.ensures
