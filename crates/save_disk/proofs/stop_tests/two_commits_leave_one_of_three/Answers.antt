use Rattle.save_disk.proofs.Rows.{two_commits}
use Rattle.save_disk.proofs.stop_tests.two_commits_leave_one_of_three.Goals as goal

pub returns : goal.returns
returns c = λ grain start kept next one two sector other bytes more some fits holds holds_next. two_commits grain
    start kept next one two sector other bytes more some fits holds holds_next
