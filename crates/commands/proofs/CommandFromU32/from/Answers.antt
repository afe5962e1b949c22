use Rattle.std.proofs.Common.{◌≡◌, ◌<◌, ◌+◌, ◌*◌, arith}
use Rattle.words.specs.Words.{bits_of}
use Rattle.commands.specs.Commands.{command_of}
use Rattle.commands.proofs.Codes.{other}
use Rattle.commands.proofs.CommandFromU32.from.Goals as goal

pub returns-in_default : goal.returns-in_default
unfolding command_of
returns-in_default c =
    let code = c.args.code in
    let split : bits_of code 5 0 ≡ bits_of code 5 2 * 4 + bits_of code 1 0 = omega arith in
    let low : bits_of code 1 0 < 4 = omega arith in
    other (bits_of code 5 2) (bits_of code 1 0) (omega arith) (omega arith) (omega arith) (λ e. omega arith) (λ e. omega arith) (λ e. omega arith) (λ e. omega arith)
