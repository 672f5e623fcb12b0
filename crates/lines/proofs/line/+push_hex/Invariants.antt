use Rattle.lines.proofs.line.+push_hex.Given as goal

-- All digits but the last are put by the call itself, with one digit less to put: that number falls.
abbrev pub decreases-push_hex : goal.decreases-push_hex
decreases-push_hex l = l.count
