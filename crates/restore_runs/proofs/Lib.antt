mod Outcomes
mod Heading
