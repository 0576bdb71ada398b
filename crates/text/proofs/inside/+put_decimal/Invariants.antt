-- `inside::put_decimal` meets its contract: a tenth of the number, and then its last digit. The measure is the number.
-- Assumes nothing.
use Rattle.text.proofs.inside.+put_decimal.Given as goal

abbrev pub decreases-put_decimal : goal.decreases-put_decimal
decreases-put_decimal l = l.n
