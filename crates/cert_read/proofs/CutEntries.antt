-- What records say with their numbers cut.
use Rattle.std.proofs.Common.{◌≡◌, ℕ, ℤ, List, Option, Some, None, option_map, refl}
use Rattle.period_keys.specs.Period.{Named}
use Rattle.cert_read.specs.Statement.{certificate_line, scale_line, start_line, indicator_line, benchmark_line, value_line, multiplier_line, gap_line, both}
use Rattle.cert_read.specs.Cutting.{cut_number, cut_line}

pub cut_certificate : (name : List ℕ) (number : Option ℤ) → option_map cut_line (option_map (certificate_line name) number) ≡ option_map (certificate_line name) (option_map cut_number number)
cut_certificate name None = refl
cut_certificate name (Some v) = refl

pub cut_scale : (number : Option ℤ) → option_map cut_line (option_map scale_line number) ≡ option_map scale_line (option_map cut_number number)
cut_scale None = refl
cut_scale (Some v) = refl

pub cut_start : (year : Option ℕ) → option_map cut_line (option_map start_line year) ≡ option_map start_line year
cut_start None = refl
cut_start (Some year) = refl

pub cut_gap : (number : Option ℤ) → option_map cut_line (option_map gap_line number) ≡ option_map gap_line (option_map cut_number number)
cut_gap None = refl
cut_gap (Some v) = refl

pub cut_indicator : (quarter : Option Named) (number : Option ℤ) → option_map cut_line (both indicator_line quarter number) ≡ both indicator_line quarter (option_map cut_number number)
cut_indicator None number = refl
cut_indicator (Some q) None = refl
cut_indicator (Some q) (Some v) = refl

pub cut_benchmark : (year : Option ℕ) (number : Option ℤ) → option_map cut_line (both benchmark_line year number) ≡ both benchmark_line year (option_map cut_number number)
cut_benchmark None number = refl
cut_benchmark (Some y) None = refl
cut_benchmark (Some y) (Some v) = refl

pub cut_value : (quarter : Option Named) (number : Option ℤ) → option_map cut_line (both value_line quarter number) ≡ both value_line quarter (option_map cut_number number)
cut_value None number = refl
cut_value (Some q) None = refl
cut_value (Some q) (Some v) = refl

pub cut_multiplier : (year : Option ℕ) (number : Option ℤ) → option_map cut_line (both multiplier_line year number) ≡ both multiplier_line year (option_map cut_number number)
cut_multiplier None number = refl
cut_multiplier (Some y) None = refl
cut_multiplier (Some y) (Some v) = refl

pub ruleset cut_entries = (cut_certificate, cut_scale, cut_start, cut_gap, cut_indicator, cut_benchmark, cut_value, cut_multiplier)
