use Rattle.pg_lines.proofs.PrintLaws.{appends_more}
use Rattle.pg_lines.proofs.answers.print_stats.Goals as goal

pub returns : goal.returns
returns g c = record {
  prints = appends_more _ _ _ _ _ (appends_more _ _ _ _ _ (appends_more _ _ _ _ _ (appends_more _ _ _ _ _ (appends_more _ _ _ _ _ (appends_more _ _ _ _ _ (appends_more _ _ _ _ _ (appends_more _ _ _ _ _ (c.in_ok-print_figure.ensures.prints) c.in_ok-print_figure-2.ensures.prints) c.in_ok-print_figure-3.ensures.prints) c.in_ok-print_figure-4.ensures.prints) c.in_ok-print_figure-5.ensures.prints) c.in_ok-print_figure-6.ensures.prints) c.in_ok-print_figure-7.ensures.prints) c.in_ok-print_figure-8.ensures.prints) c.in_ok-print_reasons.ensures.prints;
}
